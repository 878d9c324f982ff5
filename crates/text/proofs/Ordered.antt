-- The order of names is total. Assumes nothing.
use Rattle.std.proofs.Common.{◌≡◌, ℕ, ◌<◌, List, [], ◌∷◌, ◌++◌, length, Less, sym, refl, ap, ◌∙◌, arith}
use Rattle.std.specs.Cmp.Lexicographic.{lists_total, on_texts}
use Rattle.std.specs.Ordering.{ordering_then}
use Rattle.std.proofs.lemmas.Cmp.{nat_cmp_total, tied_itself}
use Rattle.std.proofs.lemmas.Map.Lookups.{exact_bytes}
use Rattle.text.specs.Names.{byte_order, name_bytes, NamesInOrder}

pub order_beginning : (xs ys : List ℕ) → 0 < length ys → byte_order xs (xs ++ ys) ≡ Less
order_beginning [] [] h = absurd (omega arith)
order_beginning [] (y ∷ ys) h = refl
order_beginning (x ∷ xs) ys h = ap (λ o. ordering_then o (byte_order xs (xs ++ ys))) (tied_itself nat_cmp_total x) ∙ order_beginning xs ys h

pub names_in_order : NamesInOrder
names_in_order = record {
  total = on_texts name_bytes;
  ties = λ a b. exact_bytes (name_bytes a) (name_bytes b);
  itself = λ a b e. ap (λ bs. byte_order (name_bytes a) bs) (sym e) ∙ tied_itself (lists_total nat_cmp_total) (name_bytes a);
  beginning = order_beginning;
}

-- That letting rows in one by one sorts them, and that rows that tie stay as they came.
use Rattle.std.proofs.Common.{◌≡◌, suc, Bool, true, false, cond, List, [], ◌∷◌, ◌++◌, get_or, filter, Ordering, sym, refl, ap, ◌∙◌, subst, arith}
use Rattle.std.proofs.lemmas.List.Elements.{All-cons, All-from_recursion, filter-append}
use Rattle.std.proofs.lemmas.List.{append_assoc, append-nil}
use Rattle.std.proofs.lemmas.List.Sorted.{IsPermutation-append_left, IsPermutation-insert, IsPermutation-refl, IsPermutation-to_front, IsPermutation-trans}
use Rattle.std.specs.Cmp.{alike_right, upto}
use Rattle.std.specs.Ordering.{is_eq, is_gt, is_le}
use Rattle.std.specs.List.Sorted.{IsPermutation}
use Rattle.std.specs.List.{All, position_or_len}
use Rattle.table.specs.declared.rows.Row.{Ghosts}
use Rattle.table.specs.Order.{Ascending, Sorts, insert_in, laid, sorted}
use Rattle.table.proofs.Orderly.{ascending_in, total}
use Rattle.table.proofs.Placing.{placed}

-- ---- the same rows
module _ {X : Type 0} (c : X → X → Ordering) where
  pub same_in : (x : X) (xs : List X) → IsPermutation (xs ++ x ∷ []) (insert_in c x xs)
  same_in x xs =
      IsPermutation-trans (xs ++ x ∷ []) (x ∷ xs) (insert_in c x xs) (IsPermutation-to_front xs x)
      (subst (IsPermutation (x ∷ xs)) (placed c x xs) (IsPermutation-insert xs (position_or_len (λ y. is_gt (c y x)) xs) x))

  same_laid : (xs ys : List X) → IsPermutation (xs ++ ys) (laid c xs ys)
  same_laid xs [] = subst (λ (zs : List X). IsPermutation zs xs) (sym (append-nil xs)) (IsPermutation-refl xs)
  same_laid xs (y ∷ ys) =
      let more = IsPermutation-append_left ys (xs ++ y ∷ []) (insert_in c y xs) (same_in y xs) in
      IsPermutation-trans (xs ++ y ∷ ys) (insert_in c y xs ++ ys) (laid c (insert_in c y xs) ys) (rw append_assoc at more) (same_laid (insert_in c y xs) ys)

pub none_pass : {X : Type 0} (p : X → Bool) (xs : List X) → All (λ y. p y ≡ false) xs → filter p xs ≡ []
none_pass p [] h = refl
none_pass p (x ∷ xs) h = let e = h 0 x (omega arith) in grind (arith, none_pass p xs (λ k d l. h (suc k) d (omega arith)))

module _ {X : Type 0} (row : Ghosts X) where
  ascending_laid : (xs ys : List X) → Ascending row.compare xs → Ascending row.compare (laid row.compare xs ys)
  ascending_laid xs [] a = a
  ascending_laid xs (y ∷ ys) a = ascending_laid (insert_in row.compare y xs) ys (ascending_in row y xs a)

  -- ---- the rows that tie with w, as they came
  module _ (w : X) where
    abbrev with_w : X → Bool
    with_w y = is_eq (row.compare y w)

    -- x comes before greater rows: if it ties with w, none of them does
    passes : (x : X) (ys : List X) → All (λ y. is_le (row.compare y x) ≡ false) ys → filter with_w (x ∷ ys) ≡ filter with_w ys ++ filter with_w (x ∷ [])
    passes x ys g =
        elim (with_w x) as (λ b. with_w x ≡ b → cond b (x ∷ filter with_w ys) (filter with_w ys) ≡ filter with_w ys ++ cond b (x ∷ []) []) [
          | true ↦ λ e. rw (none_pass with_w ys (λ k d l. let h = g k d l in grind (arith, alike_right (total row) x w (get_or ys k d)))) refl
          | false ↦ λ e. sym (append-nil (filter with_w ys))
        ] refl

    stable_in : (x : X) (xs : List X) → Ascending row.compare xs → filter with_w (insert_in row.compare x xs) ≡ filter with_w xs ++ filter with_w (x ∷ [])
    stable_in x [] a = refl
    stable_in x (y ∷ ys) a =
        elim (is_le (row.compare y x)) as (λ b. is_le (row.compare y x) ≡ b → filter with_w (cond b (y ∷ insert_in row.compare x ys) (x ∷ y ∷ ys)) ≡ filter with_w (y ∷ ys) ++ filter with_w (x ∷ [])) [
          | true ↦ λ e. let r = stable_in x ys a.1 in grind arith
          | false ↦ λ e. passes x (y ∷ ys) (All-cons (λ z. is_le (row.compare z x) ≡ false) y ys e (λ k d l. let h = All-from_recursion (λ z. is_le (row.compare y z) ≡ true) ys a.0 k d l in grind (arith, upto (total row) y (get_or ys k d) x)))
        ] refl

    stable_laid : (xs ys : List X) → Ascending row.compare xs → filter with_w (laid row.compare xs ys) ≡ filter with_w xs ++ filter with_w ys
    stable_laid xs [] a = sym (append-nil (filter with_w xs))
    stable_laid xs (y ∷ ys) a =
        stable_laid (insert_in row.compare y xs) ys (ascending_in row y xs a)
        ∙ ap (λ ks. ks ++ filter with_w ys) (stable_in y xs a)
        ∙ append_assoc (filter with_w xs) (filter with_w (y ∷ [])) (filter with_w ys)
        ∙ ap (λ ks. filter with_w xs ++ ks) (sym (filter-append with_w (y ∷ []) ys))

  pub sorted_sorts : (xs : List X) → Sorts row.compare xs (sorted row.compare xs)
  sorted_sorts xs = record { ordered = ascending_laid [] xs tt; shuffled = same_laid row.compare [] xs; stable = λ w. stable_laid w [] xs tt }

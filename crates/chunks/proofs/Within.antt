-- The entries that name a container are its chunk. Assumes nothing.
use Rattle.std.proofs.Common.{◌≡◌, Bool, true, false, cond, eqb, List, [], ◌∷◌, filter, refl, ap, ◌∙◌}
use Rattle.std.specs.Bool.{then_some}
use Rattle.std.specs.List.{cons_option, filter_map}
use Rattle.std.proofs.lemmas.Bool.{and_parts}
use Rattle.record.specs.declared.command.Entry.{Entry}
use Rattle.record.specs.declared.command.Owner.{Owner}
use Rattle.reader.specs.Places.{commands_of, count_in, innermost, placed, same_owner, stands_in}
use Rattle.reader.proofs.Placing.{same_owner_true}
use Rattle.chunks.specs.Chunks.{chunk_of}

abbrev pub named : Owner → Entry → Bool
named owner e = same_owner owner e.owner

commands_kept : (t : Bool) (e : Entry) (es : List Entry) → commands_of (cond t (e ∷ es) es) ≡ cond t (e.command ∷ commands_of es) (commands_of es)
commands_kept true e es = refl
commands_kept false e es = refl

pub kept_chunk : (owner : Owner) (before es : List Entry) → placed before es ≡ true → commands_of (filter (named owner) es) ≡ chunk_of owner (commands_of before) (commands_of es)
kept_chunk owner before [] h = refl
kept_chunk owner before (e ∷ es) h =
    let parts = and_parts (stands_in before e) (placed (e ∷ before) es) h in
    let here = and_parts (same_owner e.owner (innermost 0 (commands_of before))) (eqb e.place (count_in e.owner before)) parts.0 in
    let is = same_owner_true e.owner (innermost 0 (commands_of before)) here.0 in
    let more = kept_chunk owner (e ∷ before) es parts.1 in
    commands_kept (named owner e) e (filter (named owner) es)
    ∙ (λ i. cond (same_owner owner (is i)) (e.command ∷ more i) (more i))

-- the entries for which a test gives the entry are those that pass it
pub filter_map-test : (test : Entry → Bool) (es : List Entry) → filter_map (λ e. then_some (test e) e) es ≡ filter test es
filter_map-test test [] = refl
filter_map-test test (e ∷ es) = go (test e) (filter_map-test test es)
  where
    go : (t : Bool) → filter_map (λ e. then_some (test e) e) es ≡ filter test es → cons_option (then_some t e) (filter_map (λ e. then_some (test e) e) es) ≡ cond t (e ∷ filter test es) (filter test es)
    go true h = ap (λ es. e ∷ es) h
    go false h = h

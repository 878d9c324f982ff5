-- The rows of the open containers, held in an array. Assumes nothing.
use Rattle.std.proofs.Common.{◌≡◌, ℕ, zero, suc, ◌+◌, ◌<◌, ◌≤◌, ◌≢◌, List, ◌∷◌, length, get_or, set, refl, ap, ◌∙◌, arith}
use Rattle.std.proofs.lemmas.List.{get_or-set_same, get_or-set_other}
use Rattle.reader.specs.declared.nest.Nest.{Nest}
use Rattle.reader.specs.Questions.{Standing}
use Rattle.reader.specs.Reading.{counted, raised}
use Rattle.reader.specs.Rows.{rows_of, unused}

pub length_rows : (d : ℕ) (ns : List Nest) → length (rows_of d ns) ≡ d
length_rows zero ns = refl
length_rows (suc d) ns = ap suc (length_rows d ns)

-- a row that is not among the first d
pub rows_set_past : (d i : ℕ) (ns : List Nest) (r : Nest) → d ≤ i → rows_of d (set ns i r) ≡ rows_of d ns
rows_set_past zero i ns r h = refl
rows_set_past (suc d) i ns r h =
    let other : d ≢ i = omega arith in
    λ k. get_or-set_other ns i d r unused other k ∷ rows_set_past d i ns r (omega arith) k

pub rows_push : (d : ℕ) (ns : List Nest) (r : Nest) → d < length ns → rows_of (d + 1) (set ns d r) ≡ r ∷ rows_of d ns
rows_push d ns r h =
    let more : d + 1 ≡ suc d = omega arith in
    ap (λ (k : ℕ). rows_of k (set ns d r)) more
    ∙ (λ k. get_or-set_same ns d r unused h k ∷ rows_set_past d d ns r (omega arith) k)

-- one command more stands in the innermost of d containers
pub counted_inner : (d i : ℕ) (ns : List Nest) (body : ℕ) → i + 1 ≡ d → d ≤ length ns → ◌≡◌ {A = Standing} record { rows = rows_of d (set ns i (raised (get_or ns i unused))); body = body } (counted (rows_of d ns) body)
counted_inner zero i ns body is h = absurd (omega arith)
counted_inner (suc d) i ns body is h =
    let row = raised (get_or ns d unused) in
    let inner : i ≡ d = omega arith in
    rw inner (λ k. record { rows = get_or-set_same ns d row unused (omega arith) k ∷ rows_set_past d d ns row (omega arith) k; body = body })

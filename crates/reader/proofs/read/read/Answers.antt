use Rattle.std.proofs.Common.{◌≡◌, List, Ok, Err, vec_items, sym, ap, ◌∙◌, subst}
use Rattle.std.proofs.lemmas.Result.{err_from_is_err_and}
use Rattle.record.specs.declared.command.Entry.{Entry}
use Rattle.reader.specs.Reading.{read}
use Rattle.reader.specs.Rows.{Next}
use Rattle.reader.proofs.Judging.{accepted, refused}
use Rattle.reader.proofs.Underway.{fault_read, finished_read, underway_more, unfinished_read}
use Rattle.reader.proofs.read.read.Goals as goal
use Rattle.reader.proofs.read.read.Goals.{In_ok-entry, In_ok-finish}

-- what `next` told of the slice, it told of the entries
taken : (c : In_ok-entry) → Next c.loop-entries.reader c.next.new.self (vec_items c.loop-entries.entries) (Ok c.in_ok-entry.entry)
taken c =
    let N : List Entry → Type 0 = λ before. Next c.loop-entries.reader c.next.new.self before (Ok c.in_ok-entry.entry) in
    subst N c.as_slice.ensures.value c.in_ok-entry.ensures

-- after Z, with nothing left and nothing open, the entries are the whole answer
whole : (c : In_ok-finish) → Next c.loop-entries.reader c.next.new.self (vec_items c.loop-entries.entries) (Ok c.in_ok-entry.entry) → read c.args.source.now c.args.«record».now ≡ Ok (vec_items c.push.new.self)
whole c told =
    finished_read _ _ _ _ c.next.new.self c.loop-entries.invariant c.in_ok-entry.entry told (sym c.is_end.ensures ∙ c.if-is_end.true) (vec_items c.push.new.self) c.in_ok-push.ensures.items c.in_ok-finish.ensures

pub returns-in_err-entry : goal.returns-in_err-entry
returns-in_err-entry c =
    let N : List Entry → Type 0 = λ before. Next c.loop-entries.reader c.next.new.self before (Err c.in_err-entry.field-0.0) in
    let p = err_from_is_err_and c.from_residual.result c.from_residual.ensures.1 in
    let q = refused _ _ c.in_err-entry.field-0.0 c.from_residual.result (λ i. (c.type_inv.«record» i).fits) (p.1 ∙ ap Err p.2)
    (fault_read _ _ _ _ c.next.new.self c.loop-entries.invariant c.in_err-entry.field-0.0 (subst N c.as_slice.ensures.value c.in_err-entry.ensures)) in
    record { reads = q.0; judged = q.1 }

pub returns-in_err-finish : goal.returns-in_err-finish
returns-in_err-finish c =
    let p = err_from_is_err_and c.from_residual-in_err-finish.result c.from_residual-in_err-finish.ensures.1 in
    let q = refused _ _ c.in_err-finish.field-0.0 c.from_residual-in_err-finish.result (λ i. (c.type_inv.«record» i).fits) (p.1 ∙ ap Err p.2)
    (unfinished_read _ _ _ _ c.next.new.self c.loop-entries.invariant c.in_ok-entry.entry (taken (goal.at.returns-in_err-finish c).In_ok-entry) (sym c.is_end.ensures ∙ c.if-is_end.true) (vec_items c.push.new.self) c.in_ok-push.ensures.items c.in_err-finish.field-0.0 c.in_err-finish.ensures) in
    record { reads = q.0; judged = q.1 }

pub loop-entries-preserved : goal.loop-entries-preserved
loop-entries-preserved c =
    underway_more _ _ _ _ c.next.new.self c.loop-entries.invariant c.in_ok-entry.entry (taken (goal.at.loop-entries-preserved c).In_ok-entry) (vec_items c.push.new.self) (sym c.is_end.ensures ∙ c.if-is_end.false) c.in_ok-push.ensures.items

pub invariant_of-result : goal.invariant_of-result
invariant_of-result c =
    record { innermost = (accepted _ _ _ (λ i. (c.type_inv.«record» i).fits) (whole (goal.at.invariant_of-result c).In_ok-finish (taken (goal.at.invariant_of-result c).In_ok-entry))).innermost }

pub returns-then-is_end : goal.returns-then-is_end
returns-then-is_end c =
    let gives = whole (goal.at.returns-then-is_end c).In_ok-finish (taken (goal.at.returns-then-is_end c).In_ok-entry) in
    record { reads = (c.in_ok-source.ensures.ok, gives); judged = accepted _ _ _ (λ i. (c.type_inv.«record» i).fits) gives }

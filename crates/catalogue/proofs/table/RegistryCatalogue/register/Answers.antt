use Rattle.std.proofs.Common.{◌-◌, refl, vec_items, vec_len, arith}
use Rattle.catalogue.specs.Entries.{Entry}
use Rattle.catalogue.proofs.Listings.{lookup_none, lookup_some, push_writes, set_writes}
use Rattle.std.proofs.lemmas.Bool.Decides.{nat_tests}
use Rattle.std.proofs.lemmas.Grind.{common_steps}
use Rattle.catalogue.proofs.table.RegistryCatalogue.register.Goals as goal

pub returns-in-None : goal.returns-in-None
returns-in-None c =
    grind (arith, nat_tests, lookup_none (vec_items c.args.self.now.entries) c.args.kind c.args.name.now c.in-None.ensures)

pub returns-in-Some : goal.returns-in-Some
returns-in-Some c =
    let t = c.args.self.now in
    let held = lookup_some (vec_items t.entries) c.args.kind c.args.name.now c.in-Some.i c.in-Some.ensures in
    let written = set_writes (vec_items t.entries) c.args.kind c.args.name.now (t.limit - vec_len t.entries) _ c.args.number c.in-Some.i c.index_mut.result.now c.in-Some.ensures c.index_mut.ensures.value refl in
    grind (arith, nat_tests)

pub returns-in-None-2 : goal.returns-in-None-2
returns-in-None-2 c =
    let t = c.args.self.now in
    let u = c.push_reserved.new.self in
    let kept = rw c.unwrap-name.ensures at c.try_from.ensures in
    let entry : Entry = record { kind = c.args.kind; name = c.unwrap-name.result; number = c.args.number } in
    let written = push_writes (vec_items t.entries) c.args.kind c.args.name.now (t.limit - vec_len t.entries) (t.limit - vec_len u) entry (vec_items u) c.in-None.ensures refl kept.0 c.push_reserved.ensures.items (grind (arith, common_steps)) in
    grind (arith, nat_tests)

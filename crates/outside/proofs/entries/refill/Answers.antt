use Rattle.std.proofs.Common.{◌≤◌, ◌<◌, length, Option, MatchOption, IsSomeAnd, subst, sym}
use Rattle.std.specs.Prelude.{⊤}
use Rattle.std.specs.Bool.{OnTrue, OnFalse}
use Rattle.std.proofs.lemmas.Bool.{OnTrue_from, OnTrue_at}
use Rattle.std.proofs.lemmas.Option.{MatchOption-from_none}
use Rattle.outside.proofs.EntryChanges.{files-file, room_at, after_refill}
use Rattle.outside.proofs.EntryLemmas.{get-map_of_none, none_from_position, first_from_position}
use Rattle.outside.proofs.entries.refill.Goals as goal

pub returns-in-Some-clause-done : goal.returns-in-Some-clause-done
returns-in-Some-clause-done c =
    let n = c.args.name.now in
    let es = c.args.entries.now.items in
    let i = c.in-Some.place in
    OnTrue_from _ _ (λ yes. files-file n es i c.index_mut-entry.result.now (first_from_position n es _ i c.deref.ensures.value c.in-Some.ensures) c.index_mut-entry.ensures.value c.args.bytes.now c.refill.new.self (OnTrue_at yes c.refill.ensures.done))

pub returns-in-Some-clause-fits : goal.returns-in-Some-clause-fits
returns-in-Some-clause-fits c =
    let n = c.args.name.now in
    let es = c.args.entries.now.items in
    let i = c.in-Some.place in
    let at = room_at n es i c.index_mut-entry.result.now (first_from_position n es _ i c.deref.ensures.value c.in-Some.ensures) c.index_mut-entry.ensures.value in
    subst (λ (o : Option _). OnTrue c.refill.result (IsSomeAnd o (λ room. length c.args.bytes.now ≤ room))) (sym at) c.refill.ensures.fits

pub returns-in-Some-clause-lacks_room : goal.returns-in-Some-clause-lacks_room
returns-in-Some-clause-lacks_room c =
    let n = c.args.name.now in
    let es = c.args.entries.now.items in
    let i = c.in-Some.place in
    let at = room_at n es i c.index_mut-entry.result.now (first_from_position n es _ i c.deref.ensures.value c.in-Some.ensures) c.index_mut-entry.ensures.value in
    subst (λ (o : Option _). OnFalse c.refill.result (MatchOption o ⊤ (λ room. room < length c.args.bytes.now))) (sym at) c.refill.ensures.lacks_room

pub returns-in-Some-clause-rooms : goal.returns-in-Some-clause-rooms
returns-in-Some-clause-rooms c =
    let n = c.args.name.now in
    let es = c.args.entries.now.items in
    let i = c.in-Some.place in
    after_refill n es i c.index_mut-entry.result.now (first_from_position n es _ i c.deref.ensures.value c.in-Some.ensures) c.index_mut-entry.ensures.value c.refill.result c.args.bytes.now c.refill.new.self c.refill.ensures.done c.refill.ensures.left

pub returns-in-None-clause-lacks_room : goal.returns-in-None-clause-lacks_room
returns-in-None-clause-lacks_room c =
    let n = c.args.name.now in
    let es = c.args.entries.now.items in
    MatchOption-from_none _ _ (get-map_of_none (λ e. e.room) n es (none_from_position n es _ c.deref.ensures.value c.in-None.ensures))

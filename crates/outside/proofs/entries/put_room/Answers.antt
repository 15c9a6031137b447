use Rattle.std.proofs.Common.{◌∙◌, ap}
use Rattle.std.proofs.lemmas.Result.{on_ok_weaker}
use Rattle.std.specs.FinMap.{get, insert}
use Rattle.outside.specs.MemStore.{room_with}
use Rattle.outside.proofs.EntryChanges.{rooms-room, after_room}
use Rattle.outside.proofs.entries.put_room.Goals as goal

pub returns-clause-ok : goal.returns-clause-ok
returns-clause-ok c =
    let es = c.place_for.new.entries.items in
    let n = c.args.name.now in
    on_ok_weaker _ (λ is. rooms-room n es c.in_ok-place.place c.index_mut-entry.result.now c.in_ok-place.ensures.first c.index_mut-entry.ensures.value c.args.bytes c.make_room.new.self is
    ∙ ap (λ m. insert m n (room_with (get m n) c.args.bytes)) c.in_ok-place.ensures.rooms) c.make_room.ensures.ok

pub returns-clause-files : goal.returns-clause-files
returns-clause-files c =
    after_room c.args.name.now c.place_for.new.entries.items c.in_ok-place.place c.index_mut-entry.result.now c.in_ok-place.ensures.first c.index_mut-entry.ensures.value c.make_room.result _ c.make_room.new.self c.make_room.ensures.ok c.make_room.ensures.err
    ∙ c.in_ok-place.ensures.files

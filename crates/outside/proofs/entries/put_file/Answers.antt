use Rattle.std.proofs.Common.{◌∙◌, ap}
use Rattle.std.proofs.lemmas.Result.{on_ok_weaker}
use Rattle.std.specs.FinMap.{insert}
use Rattle.outside.proofs.EntryChanges.{files-file, after_file}
use Rattle.outside.proofs.entries.put_file.Goals as goal

pub returns-clause-ok : goal.returns-clause-ok
returns-clause-ok c =
    let es = c.place_for.new.entries.items in
    on_ok_weaker _ (λ is. files-file c.args.name.now es c.in_ok-place.place c.index_mut-entry.result.now c.in_ok-place.ensures.first c.index_mut-entry.ensures.value c.args.bytes.now c.replace.new.self is
    ∙ ap (λ m. insert m c.args.name.now c.args.bytes.now) c.in_ok-place.ensures.files) c.replace.ensures.ok

pub returns-clause-rooms : goal.returns-clause-rooms
returns-clause-rooms c =
    after_file c.args.name.now c.place_for.new.entries.items c.in_ok-place.place c.index_mut-entry.result.now c.in_ok-place.ensures.first c.index_mut-entry.ensures.value c.replace.result c.args.bytes.now c.replace.new.self c.replace.ensures.ok c.replace.ensures.err
    ∙ c.in_ok-place.ensures.rooms

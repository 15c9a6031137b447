use Rattle.std.proofs.Common.{◌∙◌}
use Rattle.outside.proofs.EntryLemmas.{after_push, first_from_position, none_from_position}
use Rattle.outside.proofs.entries.place_for.Goals as goal

pub returns-in-Some-clause-first : goal.returns-in-Some-clause-first
returns-in-Some-clause-first c =
    first_from_position c.args.name.now c.args.entries.now.items _ c.in-Some.place c.deref.ensures.value c.in-Some.ensures

pub returns-clause-first : goal.returns-clause-first
returns-clause-first c =
    let n = c.args.name.now in
    let es = c.args.entries.now.items in
    (after_push n es c.push.new.self.items c.in_ok-new.field-0 c.len-place.result (none_from_position n es _ c.deref.ensures.value c.in_default.ensures) c.in_ok-new.ensures (c.len-place.ensures ∙ c.args.entries.now.ok.0) c.in_ok-push.ensures.items).0

pub returns-clause-files : goal.returns-clause-files
returns-clause-files c =
    let n = c.args.name.now in
    let es = c.args.entries.now.items in
    (after_push n es c.push.new.self.items c.in_ok-new.field-0 c.len-place.result (none_from_position n es _ c.deref.ensures.value c.in_default.ensures) c.in_ok-new.ensures (c.len-place.ensures ∙ c.args.entries.now.ok.0) c.in_ok-push.ensures.items).1

pub returns-clause-rooms : goal.returns-clause-rooms
returns-clause-rooms c =
    let n = c.args.name.now in
    let es = c.args.entries.now.items in
    (after_push n es c.push.new.self.items c.in_ok-new.field-0 c.len-place.result (none_from_position n es _ c.deref.ensures.value c.in_default.ensures) c.in_ok-new.ensures (c.len-place.ensures ∙ c.args.entries.now.ok.0) c.in_ok-push.ensures.items).2

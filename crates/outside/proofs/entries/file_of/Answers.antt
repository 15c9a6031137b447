use Rattle.std.proofs.Common.{◌≡◌, Option, Some, None, MatchOption, subst, refl, sym}
use Rattle.std.specs.FinMap.{get}
use Rattle.outside.specs.inside.Entry.{files_of}
use Rattle.outside.proofs.EntryChanges.{file_at}
use Rattle.outside.proofs.EntryLemmas.{get-map_of_none, none_from_position, first_from_position}
use Rattle.outside.proofs.entries.file_of.Goals as goal

pub returns-in_err-place : goal.returns-in_err-place
returns-in_err-place c =
    let n = c.args.name.now in
    let es = c.args.entries.now in
    let none = get-map_of_none (λ e. e.file) n es (none_from_position n es es refl c.in_err-place.ensures) in
    subst (λ (o : Option _). MatchOption o (get (files_of es) n ≡ None) (λ bytes. get (files_of es) n ≡ Some bytes.now)) (sym c.from_residual.ensures) none

pub returns : goal.returns
returns c =
    let n = c.args.name.now in
    let es = c.args.entries.now in
    let at = file_at n es c.in_ok-place.place c.index-entries-place.result (first_from_position n es es c.in_ok-place.place refl c.in_ok-place.ensures) c.index-entries-place.is in
    subst (λ (o : Option _). MatchOption c.file.result (o ≡ None) (λ bytes. o ≡ Some bytes.now)) (sym at) c.file.ensures

use Rattle.std.proofs.Common.{◌≡◌, ap, ◌∙◌}
use Rattle.std.specs.Cmp.Lexicographic.{texts_ties}
use Rattle.outside.specs.inside.Entry.{NamedFile}
use Rattle.outside.proofs.entry.Entry.is_named.Goals as goal

pub returns : goal.returns
returns c =
    let name : c.as_str.result.now ≡ c.args.self.now.name = c.as_str.ensures.value ∙ ap (λ (entry : NamedFile). entry.name) c.self.view_is in
    rw (← name) (c.eq.ensures ∙ texts_ties c.args.name.now c.as_str.result.now)

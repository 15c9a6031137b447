use Rattle.std.proofs.Common.{◌≡◌, sym, ◌∙◌}
use Rattle.plan_text.specs.LineForms.{line_numbers}
use Rattle.plan_text.proofs.FormLaws.{line_is}
use Rattle.plan_text.proofs.form.Form.read.Goals as goal

pub returns-in-Some-2-clause-numbers : goal.returns-in-Some-2-clause-numbers
returns-in-Some-2-clause-numbers c =
    let numbers : c.in_ok-numbers.field-0 ≡ line_numbers c.args.self.now c.in-Some.line = c.in_ok-numbers.ensures in
    (line_is c.args.self.now c.in-Some.line c.in-Some-2.numbers (sym numbers ∙ c.in-Some-2.is)).of_form

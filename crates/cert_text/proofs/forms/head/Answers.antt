use Rattle.cert_text.proofs.forms.head.Goals as goal

pub returns-then-eq-3-clause-count : goal.returns-then-eq-3-clause-count
returns-then-eq-3-clause-count c = c.parted.ensures.count c.args.rows

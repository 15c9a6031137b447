use Rattle.cert_text.proofs.CertLaws.{certs_apart}
use Rattle.cert_text.proofs.ReadLaws.{few_rows, found, only, exact, refused}
use Rattle.cert_text.proofs.read.read_cert.Goals as goal

pub returns-clause-found : goal.returns-clause-found
returns-clause-found c = found c.args.road.now c.args.bytes.now c.whole.result c.requires c.whole.ensures

pub returns-clause-only : goal.returns-clause-only
returns-clause-only c = only c.args.road.now c.args.bytes.now c.whole.result c.requires c.whole.ensures

pub returns-clause-exact : goal.returns-clause-exact
returns-clause-exact c = λ cert h. exact c.args.road.now c.args.bytes.now c.whole.result c.requires c.whole.ensures cert h

pub returns-clause-line : goal.returns-clause-line
returns-clause-line c = refused c.args.road.now c.args.bytes.now c.whole.result c.whole.ensures

pub returns-clause-apart : goal.returns-clause-apart
returns-clause-apart c = certs_apart c.args.road.now (few_rows c.args.road.now c.requires)

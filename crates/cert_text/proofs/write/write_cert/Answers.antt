use Rattle.cert_text.proofs.CertLaws.{certs_apart}
use Rattle.cert_text.proofs.ReadLaws.{few_rows}
use Rattle.cert_text.proofs.write.write_cert.Goals as goal

pub returns-clause-apart : goal.returns-clause-apart
returns-clause-apart c = certs_apart c.args.road.now (few_rows c.args.road.now c.requires.accepted)

pub returns-in_err-text-clause-apart : goal.returns-in_err-text-clause-apart
returns-in_err-text-clause-apart c = certs_apart c.args.road.now (few_rows c.args.road.now c.requires.accepted)

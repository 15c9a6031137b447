-- What an answer of the checker says of the bytes, and what it proves.
use Rattle.std.specs.Prelude.{ℕ, ◌≡◌, List, IfSome}
use Rattle.road_types.specs.declared.road.Road.{Road}
use Rattle.cert_text.specs.CertText.{Certificate}
use Rattle.cert_text.specs.Validity.{IsValidText, IsAttained, IsUnbeaten, stated_cost}
use Rattle.cert_checker.specs.declared.refusal.Checked.{Checked}

-- the bytes are the text of a valid certificate that states this cost and this bound
pub record IsAnswerOf (road : Road) (bytes : List ℕ) (checked : Checked) : Type 0 where
  pub cert : Certificate
  pub valid : IsValidText road bytes cert
  pub cost_is : checked.cost ≡ stated_cost cert.planned
  pub bound_is : checked.bound ≡ cert.bound

-- what an answer states is proved by the bytes
pub record IsProved (road : Road) (bytes : List ℕ) (checked : Checked) : Type 0 where
  pub cost : IfSome checked.cost (IsAttained road bytes)
  pub bound : IsUnbeaten road checked.bound

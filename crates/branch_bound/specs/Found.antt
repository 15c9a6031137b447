-- What a search answers: the certificate, the count and the notes are those of a search of the road. The certificate is valid, so no
-- admissible plan undercuts its bound; it has a text, which is no longer than a checker reads. No tree whose splits can be made has
-- more leaves than the road has choices.
use Rattle.std.specs.Prelude.{◌≤◌, length}
use Rattle.road_types.specs.declared.road.Road.{Road}
use Rattle.cert_tree.specs.Trees.{box_tree_of}
use Rattle.cert_text.specs.CertText.{cert_text}
use Rattle.cert_text.specs.Certs.{certificate_of, IsSpelledCert}
use Rattle.cert_text.specs.Validity.{IsValid, IsUnbeaten, longest_text}
use Rattle.branch_bound.specs.Leaves.{HasFewLeaves}
use Rattle.branch_bound.specs.Searched.{IsSearched}
use Rattle.branch_bound.specs.declared.finding.Found.{Found}

pub record IsFound (road : Road) (found : Found) : Type 0 where
  pub searched : IsSearched road found.cert.plan found.cert.cost found.cert.bound (box_tree_of found.cert.tree) found.count found.notes
  pub valid : IsValid road (certificate_of found.cert)
  pub unbeaten : IsUnbeaten road found.cert.bound
  pub spelled : IsSpelledCert road found.cert
  pub short : length (cert_text road (certificate_of found.cert)) ≤ longest_text
  pub few_leaves : HasFewLeaves road

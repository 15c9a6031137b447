-- The lines that the program prints, each with its last byte 10.
--     fault_name, rule_name      the names of faults and rules
--     cert_rule_name      the names of the rules of certificates
--     listed rows, usage_line      the forms of words
--     road_refused_line, plan_refused_line, broken_line, admissible_line, cert_refused_line, valid_line, carried_line, trial_line      the lines
use Rattle.std.specs.Prelude.{ℕ, List, [], ◌∷◌, ◌++◌, codes, Option, Some, None}
use Rattle.std.specs.Fmt.{decimal}
use Rattle.road_types.specs.declared.fault.Fault.{Fault}
use Rattle.road_types.specs.declared.road.Road.{Road}
use Rattle.road_types.specs.Road.{section_count}
use Rattle.road_types.specs.declared.fault.Fault.TheVariants.{F1, F2, F3, F4, F5, F6, F7, F8, F9, F10, F11, F12, F13, F14, F15, F16, F17, F18}
use Rattle.plan_rules.specs.declared.verdict.Rule.{Rule}
use Rattle.plan_rules.specs.declared.verdict.Rule.TheVariants.{P1, P2, P3, P4, P5, P6, P7, P8, P9}
use Rattle.numbers.specs.Fractions.{Fraction, fraction_text}
use Rattle.roadopt_program.specs.declared.status.Status.{Status}
use Rattle.roadopt_program.specs.declared.status.Status.TheVariants.{Done}
use Rattle.roadopt_program.specs.CommandWords.{Row, forms}
use Rattle.cert_checker.specs.declared.refusal.CertRule.{CertRule}
use Rattle.cert_checker.specs.declared.refusal.CertRule.TheVariants.{C1, C2, C3, C4, C5, C6, C7, C8, C9}

-- the name of a fault
abbrev pub fault_name : Fault → List ℕ
fault_name F1 = codes "F1"
fault_name F2 = codes "F2"
fault_name F3 = codes "F3"
fault_name F4 = codes "F4"
fault_name F5 = codes "F5"
fault_name F6 = codes "F6"
fault_name F7 = codes "F7"
fault_name F8 = codes "F8"
fault_name F9 = codes "F9"
fault_name F10 = codes "F10"
fault_name F11 = codes "F11"
fault_name F12 = codes "F12"
fault_name F13 = codes "F13"
fault_name F14 = codes "F14"
fault_name F15 = codes "F15"
fault_name F16 = codes "F16"
fault_name F17 = codes "F17"
fault_name F18 = codes "F18"

-- the name of a rule
abbrev pub rule_name : Rule → List ℕ
rule_name P1 = codes "P1"
rule_name P2 = codes "P2"
rule_name P3 = codes "P3"
rule_name P4 = codes "P4"
rule_name P5 = codes "P5"
rule_name P6 = codes "P6"
rule_name P7 = codes "P7"
rule_name P8 = codes "P8"
rule_name P9 = codes "P9"

-- the forms of these rows, each with its word and its names
abbrev pub listed : List Row → List ℕ
listed [] = codes "\n"
listed (row ∷ []) = row.word ++ (codes " " ++ (row.names ++ codes "\n"))
listed (row ∷ next ∷ rows) = row.word ++ (codes " " ++ (row.names ++ (codes ", " ++ listed (next ∷ rows))))

-- all forms of words
abbrev pub usage_line : List ℕ
usage_line = codes "usage: " ++ listed forms

-- `road refused: Fk`
unfoldable pub road_refused_line : Fault → List ℕ
road_refused_line fault = codes "road refused: " ++ (fault_name fault ++ codes "\n")

-- `plan refused: line n`
unfoldable pub plan_refused_line : ℕ → List ℕ
plan_refused_line n = codes "plan refused: line " ++ (decimal n ++ codes "\n")

-- `broken Pk stage s place p`
unfoldable pub broken_line : Rule → ℕ → ℕ → List ℕ
broken_line rule stage place =
    codes "broken " ++ (rule_name rule ++ (codes " stage " ++ (decimal stage ++ (codes " place " ++ (decimal place ++ codes "\n")))))

-- `admissible n/d`
unfoldable pub admissible_line : Fraction → List ℕ
admissible_line cost = codes "admissible " ++ (fraction_text cost ++ codes "\n")

-- the name of a rule of certificates
abbrev pub cert_rule_name : CertRule → List ℕ
cert_rule_name C1 = codes "C1"
cert_rule_name C2 = codes "C2"
cert_rule_name C3 = codes "C3"
cert_rule_name C4 = codes "C4"
cert_rule_name C5 = codes "C5"
cert_rule_name C6 = codes "C6"
cert_rule_name C7 = codes "C7"
cert_rule_name C8 = codes "C8"
cert_rule_name C9 = codes "C9"

-- `certificate refused: Ck line n`
unfoldable pub cert_refused_line : CertRule → ℕ → List ℕ
cert_refused_line rule n = codes "certificate refused: " ++ (cert_rule_name rule ++ (codes " line " ++ (decimal n ++ codes "\n")))

-- a cost, or `none`
unfoldable pub cost_text : Option Fraction → List ℕ
cost_text None = codes "none"
cost_text (Some cost) = fraction_text cost

-- `valid no plan` where no bound stands, else `valid cost n/d bound n/d`, with `none` where no plan stands
unfoldable pub valid_line : Option Fraction → Option Fraction → List ℕ
valid_line cost None = codes "valid no plan\n"
valid_line cost (Some bound) = codes "valid cost " ++ (cost_text cost ++ (codes " bound " ++ (fraction_text bound ++ codes "\n")))

-- `carried no plan` where no bound stands, else `carried cost n/d bound n/d`, with `none` where no plan stands
unfoldable pub carried_line : Option Fraction → Option Fraction → List ℕ
carried_line cost None = codes "carried no plan\n"
carried_line cost (Some bound) = codes "carried cost " ++ (cost_text cost ++ (codes " bound " ++ (fraction_text bound ++ codes "\n")))

-- the gap between cost and bound, by the status of the run
abbrev pub gap_word : Status → List ℕ
gap_word Done = codes "none"
gap_word _ = codes "open"

-- `no plan` where no bound stands, else `cost n/d bound n/d gap none`, with `none` where no plan stands, and `open` where the gap is
unfoldable pub found_text : Option Fraction → Option Fraction → Status → List ℕ
found_text cost None status = codes " no plan\n"
found_text cost (Some bound) status =
    codes " cost " ++ (cost_text cost ++ (codes " bound " ++ (fraction_text bound ++ (codes " gap " ++ (gap_word status ++ codes "\n")))))

-- `trial NUMBER sections N stages T nodes COUNT`, and what was found
unfoldable pub trial_line : ℕ → Road → ℕ → Option Fraction → Option Fraction → Status → List ℕ
trial_line number road count cost bound status =
    codes "trial " ++ (decimal number ++ (codes " sections " ++ (decimal (section_count road) ++ (codes " stages " ++ (decimal road.stages
    ++ (codes " nodes " ++ (decimal count ++ found_text cost bound status)))))))

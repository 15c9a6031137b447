-- The statuses of ends, by kind.
use Rattle.std.specs.Prelude.{Bool, true, false, IsTrue}
use Rattle.std.proofs.Common.{◌≡◌, arith, ap, refl, sym, ◌∙◌}
use Rattle.std.proofs.lemmas.Bool.{false≢true}
use Rattle.roadopt_program.specs.declared.status.Status.{Status}
use Rattle.roadopt_program.specs.declared.status.Status.TheVariants.{Done, Gap, Usage, ReadFault, WriteFault, RoadRefused, CertRefused, NoMemory, PlanBroken, PlanRefused, Missing}
use Rattle.roadopt_program.specs.Ends.{after_fault}
use Rattle.roadopt_program.specs.Statuses.{exit_status, is_answer, may_hand_out, is_refusal, is_silent}

-- the statuses that may be due
unfoldable pub may_be_due : Status → Bool
may_be_due Usage = false
may_be_due ReadFault = false
may_be_due WriteFault = false
may_be_due NoMemory = false
may_be_due _ = true

-- the statuses of a run for which something is due
unfoldable pub may_end : Status → Bool
may_end Usage = false
may_end ReadFault = false
may_end NoMemory = false
may_end _ = true

pub answer_not_silent : (s : Status) → IsTrue (is_answer s) → IsTrue (is_silent s) → ⊥
answer_not_silent Done h k = false≢true k
answer_not_silent Gap h k = false≢true k
answer_not_silent _ h k = false≢true h

pub answer_not_lost : (s : Status) → IsTrue (is_answer (after_fault s)) → ⊥
answer_not_lost Done h = false≢true h
answer_not_lost Gap h = false≢true h
answer_not_lost _ h = false≢true h

pub refusal_not_silent : (s : Status) → IsTrue (is_refusal s) → IsTrue (is_silent s) → ⊥
refusal_not_silent ReadFault h k = false≢true h
refusal_not_silent Missing h k = false≢true h
refusal_not_silent NoMemory h k = false≢true h
refusal_not_silent _ h k = false≢true k

pub refusal_kept : (s : Status) → IsTrue (is_refusal (after_fault s)) → after_fault s ≡ s
refusal_kept Done h = absurd (false≢true h)
refusal_kept Gap h = absurd (false≢true h)
refusal_kept _ h = refl

pub missing_kept : (s : Status) → after_fault s ≡ Missing → s ≡ Missing
missing_kept Done h = absurd (omega (arith, ap exit_status h))
missing_kept Gap h = absurd (omega (arith, ap exit_status h))
missing_kept _ h = h

pub lost_answer : (s : Status) → IsTrue (may_be_due s) → after_fault s ≡ WriteFault → IsTrue (is_answer s)
unfolding may_be_due
lost_answer Done h e = refl
lost_answer Gap h e = refl
lost_answer WriteFault h e = absurd (false≢true h)
lost_answer _ h e = absurd (omega (arith, ap exit_status e))

pub due_ends : (s : Status) → IsTrue (may_be_due s) → IsTrue (may_end s)
unfolding may_be_due may_end
due_ends Usage h = absurd (false≢true h)
due_ends ReadFault h = absurd (false≢true h)
due_ends WriteFault h = absurd (false≢true h)
due_ends NoMemory h = absurd (false≢true h)
due_ends _ h = refl

pub due_ends_lost : (s : Status) → IsTrue (may_be_due s) → IsTrue (may_end (after_fault s))
unfolding may_be_due may_end
due_ends_lost Done h = refl
due_ends_lost Gap h = refl
due_ends_lost Usage h = absurd (false≢true h)
due_ends_lost ReadFault h = absurd (false≢true h)
due_ends_lost WriteFault h = absurd (false≢true h)
due_ends_lost NoMemory h = absurd (false≢true h)
due_ends_lost _ h = refl

pub no_usage_ends : IsTrue (may_end Usage) → ⊥
unfolding may_end
no_usage_ends h = false≢true h

pub no_read_fault_ends : IsTrue (may_end ReadFault) → ⊥
unfolding may_end
no_read_fault_ends h = false≢true h

pub no_write_fault_due : IsTrue (may_be_due WriteFault) → ⊥
unfolding may_be_due
no_write_fault_due h = false≢true h

-- ---- what is handed out

pub answer_hands_out : (s : Status) → IsTrue (is_answer s) → IsTrue (may_hand_out s)
answer_hands_out Done h = refl
answer_hands_out Gap h = refl
answer_hands_out _ h = absurd (false≢true h)

pub lost_hands_out : (s : Status) → IsTrue (is_answer s) → IsTrue (may_hand_out (after_fault s))
lost_hands_out Done h = refl
lost_hands_out Gap h = refl
lost_hands_out _ h = absurd (false≢true h)

pub answer_after_fault : (s : Status) → IsTrue (is_answer s) → after_fault s ≡ WriteFault
answer_after_fault Done h = refl
answer_after_fault Gap h = refl
answer_after_fault _ h = absurd (false≢true h)

pub refusal_keeps : (s : Status) → IsTrue (is_refusal s) → may_hand_out s ≡ false
refusal_keeps RoadRefused h = refl
refusal_keeps CertRefused h = refl
refusal_keeps PlanBroken h = refl
refusal_keeps PlanRefused h = refl
refusal_keeps _ h = absurd (false≢true h)

pub silent_keeps : (s : Status) → IsTrue (is_silent s) → may_hand_out s ≡ false
silent_keeps ReadFault h = refl
silent_keeps Missing h = refl
silent_keeps NoMemory h = refl
silent_keeps _ h = absurd (false≢true h)

pub missing_keeps : (s : Status) → s ≡ Missing → may_hand_out s ≡ false
missing_keeps s h = ap may_hand_out h

pub lost_keeps : (s : Status) → s ≡ WriteFault → IsTrue (may_hand_out s)
lost_keeps s h = ap may_hand_out h

pub true_not_false : (b : Bool) → IsTrue b → b ≡ false → ⊥
true_not_false b h e = false≢true (sym e ∙ h)

pub lost_no_answer : (s : Status) → s ≡ WriteFault → IsTrue (is_answer s) → ⊥
lost_no_answer s e h = false≢true (sym (ap is_answer e) ∙ h)

-- From the outcome of a command to what stands behind each status of a run.
use Rattle.std.specs.Prelude.{ℕ, ◌⊎◌, false, IsTrue, Option, Some, None, List, []}
use Rattle.std.proofs.Common.{◌≡◌, inl, inr, arith, sym, ap, subst, refl, ◌∙◌}
use Rattle.std.proofs.lemmas.Bool.{false≢true}
use Rattle.outside.specs.Faults.{HasRisen}
use Rattle.outside.specs.Files.{Files}
use Rattle.cert_text.specs.declared.cert.Cert.{Cert}
use Rattle.branch_bound.specs.declared.notes.NodeNote.{NodeNote}
use Rattle.roadopt_program.specs.declared.ending.Made.{Made}
use Rattle.roadopt_program.specs.declared.ending.Product.{Product}
use Rattle.roadopt_program.specs.declared.ending.Product.TheVariants.{Searched}
use Rattle.roadopt_program.specs.declared.status.Status.{Status}
use Rattle.roadopt_program.specs.declared.status.Status.TheVariants.{Done, Gap, Usage, ReadFault, WriteFault, Missing}
use Rattle.roadopt_program.specs.Due.{road_due, Follows, IsDue, Due}
use Rattle.roadopt_program.specs.Ends.{End, NamedBytes, Output, after_fault, files_with, missing_end}
use Rattle.roadopt_program.specs.CommandWords.{RoadCommand, Command, on_road, trial, command_of, name_written}
use Rattle.roadopt_program.specs.Runs.{cert_found, notes_found, HandsOut, IsAnswered, IsRefused, IsMissing, IsLost, IsGivenUp, Reaches, EndsAsDue}
use Rattle.roadopt_program.specs.Trying.{Tries}
use Rattle.roadopt_program.specs.Statuses.{exit_status, is_answer, may_hand_out, is_refusal, is_silent}
use Rattle.roadopt_program.specs.inside.Outcomes.{made_end, Prints, Finishes, IsMade, IsMadeOfRoad, IsMadeFor, IsCarriedOut, Outcome, TrialOutcome}
use Rattle.roadopt_program.proofs.DueLaws.{one_end, without_search, IsEndOf, end_kind}
use Rattle.roadopt_program.proofs.StatusLemmas.{may_be_due, may_end, answer_not_silent, answer_not_lost, refusal_not_silent, refusal_kept, missing_kept, lost_answer, due_ends, due_ends_lost, no_usage_ends, no_read_fault_ends, no_write_fault_due, answer_hands_out, lost_hands_out, answer_after_fault, refusal_keeps, missing_keeps, lost_keeps, true_not_false, lost_no_answer}

pub due_of : (told : Option Files) (command : Command) (r n : ℕ) (found : Option Product) (end : End) → IsMadeFor told command r n found end → IsDue told command found end
due_of told (on_road command) r n found end m = m.due
due_of told (trial number) r n found end m = m

due_for : (told : Option Files) (words : List (List ℕ)) (command : Command) (found : Option Product) (end : End) → command_of words ≡ Some command → IsDue told command found end → Due told words found end
due_for told words command found end form due = record { command = command; form = form; is_due = due }

given_up_silent : (r n : ℕ) (s : Status) → IsGivenUp r n s → IsTrue (is_silent s)
given_up_silent r n s (inl p) = ap is_silent p.0
given_up_silent r n s (inr p) = ap is_silent p

-- ---- how a due end is finished

-- a write or a put failed
abbrev pub HasFailed : ℕ → ℕ → Output → Output → Type 0
HasFailed w v before now = HasRisen w v ⊎ HasRisen before.faults now.faults

no_file_none : (o : Option NamedBytes) (file : NamedBytes) → o ≡ None → o ≡ Some file → ⊥
no_file_none o file p q = cc

-- a file is written of a search alone, which has an answer
written_answer : (found : Option Product) (end : End) (file : NamedBytes) → IsEndOf found end → end.file ≡ Some file → IsTrue (is_answer end.status)
written_answer None end file kind is = absurd (no_file_none end.file file kind.0 is)
written_answer (Some found) end file kind is = kind

printed : (end : End) (w v : ℕ) (before now : Output) (s : Status) → Prints end.status end.output before now s → (s ≡ end.status) ⊎ ((s ≡ after_fault end.status) × HasFailed w v before now)
printed end w v before now s (inl p) = inl p.0
printed end w v before now s (inr (inl p)) = inl p.0
printed end w v before now s (inr (inr p)) = inr (p.0, inr p.1)

-- the status of a run that finishes a due end: its own, or the one that it has where a write or a put failed
pub finished : (told files : Option Files) (found : Option Product) (end : End) (w v : ℕ) (before now : Output) (s : Status) → IsEndOf found end → Finishes told files end w v before now s
    → (s ≡ end.status) ⊎ ((s ≡ after_fault end.status) × HasFailed w v before now)
finished told files found end w v before now s kind (inl p) = printed end w v before now s p.1
finished told files found end w v before now s kind (inr u) =
    inr (u.2 ∙ sym (answer_after_fault end.status (written_answer found end u.0 kind u.1)), inl u.3.risen)

-- a search is handed out
found_hands_out : (end : End) (s : Status) (Failed : Type 0) → IsTrue (is_answer end.status) → (s ≡ end.status) ⊎ ((s ≡ after_fault end.status) × Failed) → IsTrue (may_hand_out s)
found_hands_out end s Failed answer (inl p) = subst (λ (x : Status). IsTrue (may_hand_out x)) (sym p) (answer_hands_out end.status answer)
found_hands_out end s Failed answer (inr p) = subst (λ (x : Status). IsTrue (may_hand_out x)) (sym p.0) (lost_hands_out end.status answer)

none_found : (found : Option Product) (end : End) (s : Status) (Failed : Type 0) → IsEndOf found end → (s ≡ end.status) ⊎ ((s ≡ after_fault end.status) × Failed) → may_hand_out s ≡ false → found ≡ None
none_found None end s Failed kind ends kept = refl
none_found (Some found) end s Failed kind ends kept = absurd (true_not_false (may_hand_out s) (found_hands_out end s Failed kind ends) kept)

no_file : (found : Option Product) (end : End) → IsEndOf found end → found ≡ None → end.file ≡ None
no_file None end kind none = kind.0
no_file (Some found) end kind none = cc

answer_may_be : (s : Status) → IsTrue (is_answer s) → IsTrue (may_be_due s)
unfolding may_be_due
answer_may_be Done h = refl
answer_may_be Gap h = refl
answer_may_be _ h = absurd (false≢true h)

may_be : (found : Option Product) (end : End) → IsEndOf found end → IsTrue (may_be_due end.status)
may_be None end kind = kind.1.0
may_be (Some found) end kind = answer_may_be end.status kind

module _ (told files : Option Files) (words : List (List ℕ)) (command : Command) (r n w v : ℕ) (before now : Output) (s : Status) (cert : Option Cert) (notes : List NodeNote) (form : command_of words ≡ Some command) where
  -- ---- answers

  answered_print : (found : Option Product) (end : End) → Due told words found end → HandsOut found cert notes → files ≡ files_with told end.file
      → Prints end.status end.output before now s → IsTrue (is_answer s) → IsAnswered told words s cert notes files before now
  answered_print found end due out file (inl p) h = absurd (answer_not_silent end.status (subst (λ (x : Status). IsTrue (is_answer x)) p.0 h) p.1)
  answered_print found end due out file (inr (inl p)) h = record { found = found; end = end; due = due; status_is = sym p.0; whole = p.1; file_is = file; hands_out = out }
  answered_print found end due out file (inr (inr p)) h = absurd (answer_not_lost end.status (subst (λ (x : Status). IsTrue (is_answer x)) p.0 h))

  answered_by : (found : Option Product) (end : End) → Due told words found end → HandsOut found cert notes → Finishes told files end w v before now s → IsTrue (is_answer s) → IsAnswered told words s cert notes files before now
  answered_by found end due out (inl p) h = answered_print found end due out p.0 p.1 h
  answered_by found end due out (inr u) h = absurd (lost_no_answer s u.2 h)

  pub answered : Outcome told command files r n w v before now s cert notes → IsTrue (is_answer s) → IsAnswered told words s cert notes files before now
  answered (inl c) h = answered_by c.found c.end (due_for told words command c.found c.end form (due_of told command r n c.found c.end c.made)) c.hands_out c.finishes h
  answered (inr g) h = absurd (answer_not_silent s h (given_up_silent r n s g.given_up))

  -- ---- ends without an answer

  kind_of : (c : IsCarriedOut told command files r n w v before now s cert notes) → IsEndOf c.found c.end
  kind_of c = end_kind told command c.found c.end (due_of told command r n c.found c.end c.made)

  ends_of : (c : IsCarriedOut told command files r n w v before now s cert notes) → (s ≡ c.end.status) ⊎ ((s ≡ after_fault c.end.status) × HasFailed w v before now)
  ends_of c = finished told files c.found c.end w v before now s (kind_of c) c.finishes

  none_of : (c : IsCarriedOut told command files r n w v before now s cert notes) → may_hand_out s ≡ false → c.found ≡ None
  none_of c kept = none_found c.found c.end s (HasFailed w v before now) (kind_of c) (ends_of c) kept

  due_without : (c : IsCarriedOut told command files r n w v before now s cert notes) → may_hand_out s ≡ false → IsDue told command None c.end
  due_without c kept = subst (λ (f : Option Product). IsDue told command f c.end) (none_of c kept) (due_of told command r n c.found c.end c.made)

  -- no file is changed, and nothing is handed out
  kept_by : (end : End) → end.file ≡ None → Finishes told files end w v before now s → files ≡ told
  kept_by end none (inl p) = p.0 ∙ ap (λ file. files_with told file) none
  kept_by end none (inr u) = absurd (no_file_none end.file u.0 none u.1)

  pub files_kept : Outcome told command files r n w v before now s cert notes → may_hand_out s ≡ false → files ≡ told
  files_kept (inl c) kept = kept_by c.end (no_file c.found c.end (kind_of c) (none_of c kept)) c.finishes
  files_kept (inr g) kept = g.files_kept

  handed_none : (found : Option Product) → found ≡ None → HandsOut found cert notes → (cert ≡ None) × (notes ≡ [])
  handed_none None none out = (out.cert_is, out.notes_are)
  handed_none (Some found) none out = cc

  pub nothing_found : Outcome told command files r n w v before now s cert notes → may_hand_out s ≡ false → (cert ≡ None) × (notes ≡ [])
  nothing_found (inl c) kept = handed_none c.found (none_of c kept) c.hands_out
  nothing_found (inr g) kept = handed_none None refl g.hands_out

  -- ---- refusals

  refused_print : (end : End) → Due told words None end → Prints end.status end.output before now s → IsTrue (is_refusal s) → IsRefused told words s before now
  refused_print end due (inl p) h = absurd (refusal_not_silent end.status (subst (λ (x : Status). IsTrue (is_refusal x)) p.0 h) p.1)
  refused_print end due (inr (inl p)) h = record { end = end; due = due; status_is = sym p.0; says = inl p.1 }
  refused_print end due (inr (inr p)) h =
      let kept : after_fault end.status ≡ end.status = refusal_kept end.status (subst (λ (x : Status). IsTrue (is_refusal x)) p.0 h) in
      record { end = end; due = due; status_is = sym (p.0 ∙ kept); says = inr (p.1, p.2) }

  refused_by : (end : End) → Due told words None end → Finishes told files end w v before now s → IsTrue (is_refusal s) → IsRefused told words s before now
  refused_by end due (inl p) h = refused_print end due p.1 h
  refused_by end due (inr u) h = absurd (true_not_false (may_hand_out s) (lost_keeps s u.2) (refusal_keeps s h))

  pub refused : Outcome told command files r n w v before now s cert notes → IsTrue (is_refusal s) → IsRefused told words s before now
  refused (inl c) h = refused_by c.end (due_for told words command None c.end form (due_without c (refusal_keeps s h))) c.finishes h
  refused (inr g) h = absurd (refusal_not_silent s h (given_up_silent r n s g.given_up))

  -- ---- answers that are lost

  given_up_not_lost : IsGivenUp r n s → s ≡ WriteFault → ⊥
  given_up_not_lost (inl p) h = omega (arith, ap exit_status p.0, ap exit_status h)
  given_up_not_lost (inr p) h = omega (arith, ap exit_status p, ap exit_status h)

  due_not_lost : (end : End) → IsTrue (may_be_due end.status) → s ≡ end.status → s ≡ WriteFault → ⊥
  due_not_lost end may p h = no_write_fault_due (subst (λ (x : Status). IsTrue (may_be_due x)) (sym p ∙ h) may)

  lost_print : (found : Option Product) (end : End) → Due told words found end → HandsOut found cert notes → IsTrue (may_be_due end.status) → files ≡ files_with told end.file
      → Prints end.status end.output before now s → s ≡ WriteFault → IsLost told words cert notes files w v before now
  lost_print found end due out may file (inl p) h = absurd (due_not_lost end may p.0 h)
  lost_print found end due out may file (inr (inl p)) h = absurd (due_not_lost end may p.0 h)
  lost_print found end due out may file (inr (inr p)) h = record {
    found = found;
    end = end;
    due = due;
    answer = lost_answer end.status may (sym p.0 ∙ h);
    loses = inr (record { risen = p.1; front = p.2; file_is = file });
    hands_out = out;
  }

  lost_by : (found : Option Product) (end : End) → Due told words found end → HandsOut found cert notes → IsEndOf found end → Finishes told files end w v before now s → s ≡ WriteFault → IsLost told words cert notes files w v before now
  lost_by found end due out kind (inl p) h = lost_print found end due out (may_be found end kind) p.0 p.1 h
  lost_by found end due out kind (inr u) h = record {
    found = found;
    end = end;
    due = due;
    answer = written_answer found end u.0 kind u.1;
    loses = inl (u.0, u.1, u.3);
    hands_out = out;
  }

  pub lost : Outcome told command files r n w v before now s cert notes → s ≡ WriteFault → IsLost told words cert notes files w v before now
  lost (inl c) h = lost_by c.found c.end (due_for told words command c.found c.end form (due_of told command r n c.found c.end c.made)) c.hands_out (kind_of c) c.finishes h
  lost (inr g) h = absurd (given_up_not_lost g.given_up h)

  -- ---- no end for the words, and reads that failed

  carried_ends : (end : End) → IsTrue (may_be_due end.status) → (s ≡ end.status) ⊎ ((s ≡ after_fault end.status) × HasFailed w v before now) → IsTrue (may_end s)
  carried_ends end may (inl p) = subst (λ (x : Status). IsTrue (may_end x)) (sym p) (due_ends end.status may)
  carried_ends end may (inr p) = subst (λ (x : Status). IsTrue (may_end x)) (sym p.0) (due_ends_lost end.status may)

  ends_well : (c : IsCarriedOut told command files r n w v before now s cert notes) → IsTrue (may_end s)
  ends_well c = carried_ends c.end (may_be c.found c.end (kind_of c)) (ends_of c)

  given_up_no_usage : IsGivenUp r n s → s ≡ Usage → ⊥
  given_up_no_usage (inl p) h = omega (arith, ap exit_status p.0, ap exit_status h)
  given_up_no_usage (inr p) h = omega (arith, ap exit_status p, ap exit_status h)

  pub no_usage : Outcome told command files r n w v before now s cert notes → s ≡ Usage → ⊥
  no_usage (inl c) h = no_usage_ends (subst (λ (x : Status). IsTrue (may_end x)) h (ends_well c))
  no_usage (inr g) h = given_up_no_usage g.given_up h

  given_up_read : IsGivenUp r n s → s ≡ ReadFault → HasRisen r n
  given_up_read (inl p) h = p.1
  given_up_read (inr p) h = absurd (omega (arith, ap exit_status p, ap exit_status h))

  pub unreadable : Outcome told command files r n w v before now s cert notes → s ≡ ReadFault → HasRisen r n
  unreadable (inl c) h = absurd (no_read_fault_ends (subst (λ (x : Status). IsTrue (may_end x)) h (ends_well c)))
  unreadable (inr g) h = given_up_read g.given_up h

  -- ---- the other direction

  reaches_print : (end : End) → Prints end.status end.output before now s → Reaches end r n before now s
  reaches_print end (inl p) = inl p.0
  reaches_print end (inr (inl p)) = inl p.0
  reaches_print end (inr (inr p)) = inr (inl (p.0, p.1))

  reaches_by : (end : End) → end.file ≡ None → Finishes told files end w v before now s → Reaches end r n before now s
  reaches_by end none (inl p) = reaches_print end p.1
  reaches_by end none (inr u) = absurd (no_file_none end.file u.0 none u.1)

  reaches : (files' : Files) (end : End) → told ≡ Some files' → Due told words None end → (c : IsCarriedOut told command files r n w v before now s cert notes) → Reaches end r n before now s
  reaches files' end is due c =
      let own = due_for told words command c.found c.end form (due_of told command r n c.found c.end c.made) in
      let none : c.found ≡ None = without_search files' words c.found end c.end (subst (λ (t : Option Files). Due t words None end) is due) (subst (λ (t : Option Files). Due t words c.found c.end) is own) in
      let same : c.end ≡ end = one_end told words files' None c.end end is (subst (λ (f : Option Product). Due told words f c.end) none own) due in
      subst (λ (e : End). Reaches e r n before now s) same (reaches_by c.end (no_file c.found c.end (kind_of c) none) c.finishes)

  pub as_due : Outcome told command files r n w v before now s cert notes → EndsAsDue told words r n before now s
  as_due (inl c) files' end is due = reaches files' end is due c
  as_due (inr g) files' end is due = inr (inr g.given_up)

-- ---- missing files

missing_end_of : (found : Option Product) (end : End) → IsEndOf found end → found ≡ None → end.status ≡ Missing → end ≡ missing_end
missing_end_of None end kind none = kind.1.1
missing_end_of (Some found) end kind none = cc

missing_status : (end : End) (s : Status) (Failed : Type 0) → (s ≡ end.status) ⊎ ((s ≡ after_fault end.status) × Failed) → s ≡ Missing → end.status ≡ Missing
missing_status end s Failed (inl p) h = sym p ∙ h
missing_status end s Failed (inr p) h = missing_kept end.status (sym p.0 ∙ h)

given_up_not_missing : (r n : ℕ) (s : Status) → IsGivenUp r n s → s ≡ Missing → ⊥
given_up_not_missing r n s (inl p) h = omega (arith, ap exit_status p.0, ap exit_status h)
given_up_not_missing r n s (inr p) h = omega (arith, ap exit_status p, ap exit_status h)

missing_on_road : (told : Option Files) (words : List (List ℕ)) (command : RoadCommand) (r n : ℕ) (found : Option Product) (end : End) → command_of words ≡ Some (on_road command)
    → IsMadeOfRoad told command r n found end → found ≡ None → end ≡ missing_end → IsMissing told words r n
missing_on_road told words command r n found end form m none is =
    let follows = subst (λ (f : Option Product). Follows command.verb (road_due m.due.given.road m.due.given.table) (name_written command) m.due.given.other f end) none m.due.follows in
    record {
      command = command;
      form = form;
      due = record {
        given = m.due.given;
        are_given = m.due.are_given;
        follows = subst (λ (e : End). Follows command.verb (road_due m.due.given.road m.due.given.table) (name_written command) m.due.given.other None e) is follows;
      };
      no_fault = m.no_fault;
    }

missing_by : (told : Option Files) (words : List (List ℕ)) (command : Command) (r n : ℕ) (found : Option Product) (end : End) → command_of words ≡ Some command
    → IsMadeFor told command r n found end → found ≡ None → end ≡ missing_end → IsMissing told words r n
missing_by told words (on_road command) r n found end form m none is = missing_on_road told words command r n found end form m none is
missing_by told words (trial number) r n None end form m none is = absurd m
missing_by told words (trial number) r n (Some found) end form m none is = cc

pub missing : (told files : Option Files) (words : List (List ℕ)) (command : Command) (r n w v : ℕ) (before now : Output) (s : Status) (cert : Option Cert) (notes : List NodeNote)
    → command_of words ≡ Some command → Outcome told command files r n w v before now s cert notes → s ≡ Missing → IsMissing told words r n
missing told files words command r n w v before now s cert notes form (inl c) h =
    let kind = kind_of told files words command r n w v before now s cert notes form c in
    let ends = ends_of told files words command r n w v before now s cert notes form c in
    let none = none_of told files words command r n w v before now s cert notes form c (missing_keeps s h) in
    missing_by told words command r n c.found c.end form c.made none (missing_end_of c.found c.end kind none (missing_status c.end s (HasFailed w v before now) ends h))
missing told files words command r n w v before now s cert notes form (inr g) h = absurd (given_up_not_missing r n s g.given_up h)

pub some_not_none : {A : Type 0} (o : Option A) (x : A) → o ≡ Some x → o ≡ None → ⊥
some_not_none o x p q = cc

-- nothing is due for words that are no form
pub usage_as_due : (told : Option Files) (words : List (List ℕ)) (r n : ℕ) (before now : Output) (s : Status) → command_of words ≡ None → EndsAsDue told words r n before now s
usage_as_due told words r n before now s none files end is due = absurd (some_not_none (command_of words) due.command due.form none)

-- ---- trials

tried_none : (told : Option Files) (number : ℕ) (found : Option Product) (end : End) → Tries number found end → told ≡ files_with told end.file
tried_none told number (Some (Searched found)) end h = sym (ap (λ file. files_with told file) h.no_file)
tried_none told number _ end h = absurd h

-- a trial is carried out, whatever the store holds
pub trial_carried : (told : Option Files) (number r w : ℕ) (before now : Output) (s : Status) (cert : Option Cert) (notes : List NodeNote)
    → TrialOutcome number before now s cert notes → Outcome told (trial number) told r r w w before now s cert notes
trial_carried told number r w before now s cert notes (inl t) =
    inl (record { found = t.found; end = t.end; made = t.tries; finishes = inl (tried_none told number t.found t.end t.tries, t.prints); hands_out = t.hands_out })
trial_carried told number r w before now s cert notes (inr m) = inr (record { given_up = inr m.0; files_kept = refl; hands_out = m.1 })

-- ---- commands over two files

-- what was made was finished, and what was found is handed out
pub carried_on_road : (told mid files : Option Files) (command : RoadCommand) (r m n w x v : ℕ) (before now : Output) (s finish : Status) (made : Made) (cert : Option Cert) (notes : List NodeNote)
    → IsMade told command r m made → mid ≡ told → n ≡ m → x ≡ w → Finishes mid files (made_end (name_written command) made) x v before now finish → s ≡ finish
    → cert ≡ cert_found made.found → notes ≡ notes_found made.found → Outcome told (on_road command) files r n w v before now s cert notes
carried_on_road told mid files command r m n w x v before now s finish made cert notes is same reads writes f status cert_is notes_are =
    let end = made_end (name_written command) made in
    let by_store = subst (λ (t : Option Files). Finishes t files end x v before now finish) same f in
    let by_writes = subst (λ (k : ℕ). Finishes told files end k v before now finish) writes by_store in
    inl (record {
      found = made.found;
      end = end;
      made = record { due = is.due; no_fault = λ e. reads ∙ is.no_fault e };
      finishes = subst (λ (t : Status). Finishes told files end w v before now t) (sym status) by_writes;
      hands_out = record { cert_is = cert_is; notes_are = notes_are };
    })

-- The first line of what is left, and the lines behind it.
use Rattle.std.proofs.Common.{◌≡◌, ◌≢◌, ◌⊎◌, ◌==◌, ℕ, ◌+◌, ◌<◌, ◌≤◌, Bool, true, false, Option, Some, None, inl, inr, List, [], ◌∷◌, ◌++◌, length, drop, All, refl, sym, ap, subst, ◌∙◌, arith, append-nil}
use Rattle.std.specs.Borrow.{Bor}
use Rattle.std.specs.Option.{is_some}
use Rattle.std.proofs.lemmas.Bool.{false≢true}
use Rattle.std.proofs.lemmas.List.{drop-drop, drop_at, drop_all, length_push, append_assoc}
use Rattle.std.proofs.lemmas.List.Elements.{All-nil, All-cons}
use Rattle.std.specs.List.{join_with_byte}
use Rattle.std.proofs.lemmas.List.Splits.{join_with_byte-slice_split}
use mir.Val.{bool_byte}
use Rattle.text_parts.specs.Words.{parts_between, further_parts, with_separator}
use Rattle.text_parts.specs.Lines.{TextLine, lines_of_parts, lines_of, text_of}
use Rattle.text_parts.proofs.PartsLemmas.{first_part}

abbrev line_at : ℕ → List ℕ → Bool → TextLine
line_at at bytes ended = record { start = at; bytes = bytes; ended = ended }

pub lines_ended : (at : ℕ) (rest part next : List ℕ) → parts_between 10 rest ≡ part ∷ parts_between 10 next → lines_of at rest ≡ line_at at part true ∷ lines_of (at + length part + 1) next
lines_ended at rest part next e =
    let more = first_part (λ b. b == 10) next in
    ap (lines_of_parts at) (e ∙ ap (λ ps. part ∷ ps) more.2)
    ∙ ap (λ ps. line_at at part true ∷ lines_of_parts (at + length part + 1) ps) (sym more.2)

-- what stands in the source behind the bytes of a line and its line feed
behind : (at : ℕ) (source bytes : List ℕ) (b : ℕ) (next : List ℕ) → drop at source ≡ bytes ++ (b ∷ next) → drop (at + (length bytes + 1)) source ≡ next
behind at source bytes b next e =
    sym (drop-drop (length bytes + 1) at source)
    ∙ ap (drop (length bytes + 1)) (e ∙ sym (append_assoc bytes (b ∷ []) next))
    ∙ drop_at (bytes ++ (b ∷ [])) next (length bytes + 1) (length_push bytes b)

behind_last : (at : ℕ) (source bytes : List ℕ) → drop at source ≡ bytes ++ [] → drop (at + (length bytes + 0)) source ≡ []
behind_last at source bytes e =
    sym (drop-drop (length bytes + 0) at source)
    ∙ ap (drop (length bytes + 0)) (e ∙ append-nil bytes)
    ∙ drop_all (length bytes + 0) bytes (omega arith)

abbrev step : List ℕ → Option (Bor (List ℕ)) → ℕ
step bytes after = length bytes + bool_byte (is_some after)

-- where the first part is a line, it is the first of the lines, and the others are those of what stands behind it
pub next_line : (at : ℕ) (source bytes : List ℕ) (after : Option (Bor (List ℕ))) → parts_between 10 (drop at source) ≡ bytes ∷ further_parts 10 after → drop at source ≡ bytes ++ with_separator 10 after → (is_some after ≡ true) ⊎ (length bytes ≢ 0) → lines_of at (drop at source) ≡ line_at at bytes (is_some after) ∷ lines_of (at + step bytes after) (drop (at + step bytes after) source)
next_line at source [] None p w (inl h) = absurd (false≢true h)
next_line at source [] None p w (inr h) = absurd (h refl)
next_line at source (b ∷ bs) None p w h =
    ap (lines_of_parts at) p ∙ ap (λ text. line_at at (b ∷ bs) false ∷ lines_of (at + (length (b ∷ bs) + 0)) text) (sym (behind_last at source (b ∷ bs) w))
next_line at source bytes (Some next) p w h =
    lines_ended at (drop at source) bytes next.now p
    ∙ ap (λ k. line_at at bytes true ∷ lines_of k next.now) (omega arith)
    ∙ ap (λ text. line_at at bytes true ∷ lines_of (at + (length bytes + 1)) text) (sym (behind at source bytes 10 next.now w))

-- where the first part is empty and the last, no line is left
pub no_line : (at : ℕ) (source bytes : List ℕ) (after : Option (Bor (List ℕ))) → parts_between 10 (drop at source) ≡ bytes ∷ further_parts 10 after → is_some after ≡ false → length bytes ≡ 0 → lines_of at (drop at source) ≡ []
no_line at source [] None p e h = ap (lines_of_parts at) p
no_line at source (b ∷ bs) None p e h = absurd (omega arith)
no_line at source bytes (Some next) p e h = absurd (false≢true (sym e))

starts_of_parts : (at : ℕ) (parts : List (List ℕ)) → All (λ l. at ≤ l.start) (lines_of_parts at parts)
starts_of_parts at [] = All-nil (λ (l : TextLine). at ≤ l.start)
starts_of_parts at ([] ∷ []) = All-nil (λ (l : TextLine). at ≤ l.start)
starts_of_parts at ((b ∷ bs) ∷ []) = All-cons (λ (l : TextLine). at ≤ l.start) (line_at at (b ∷ bs) false) [] (omega arith) (All-nil (λ (l : TextLine). at ≤ l.start))
starts_of_parts at (part ∷ next ∷ parts) =
    let more = starts_of_parts (at + length part + 1) (next ∷ parts) in
    All-cons (λ (l : TextLine). at ≤ l.start) (line_at at part true) _ (omega arith) (λ k d h. omega (arith, more k d h))

-- the lines behind a line start behind its end
pub later_lines : (at : ℕ) (source bytes : List ℕ) (after : Option (Bor (List ℕ))) → drop at source ≡ bytes ++ with_separator 10 after → All (λ l. at + length bytes < l.start) (lines_of (at + step bytes after) (drop (at + step bytes after) source))
later_lines at source bytes None w =
    let Late : List TextLine → Type 0 = λ ls. All (λ l. at + length bytes < l.start) ls in
    subst (λ text. Late (lines_of (at + (length bytes + 0)) text)) (sym (behind_last at source bytes w)) (All-nil (λ (l : TextLine). at + length bytes < l.start))
later_lines at source bytes (Some next) w =
    let more = starts_of_parts (at + (length bytes + 1)) (parts_between 10 (drop (at + (length bytes + 1)) source)) in
    λ k d h. omega (arith, more k d h)

-- the lines of a text make the text
pub text_of-lines_of : (at : ℕ) (bytes : List ℕ) → text_of (lines_of at bytes) ≡ bytes
text_of-lines_of at bytes = go at (parts_between 10 bytes) ∙ join_with_byte-slice_split 10 bytes
  where
    go : (at : ℕ) (parts : List (List ℕ)) → text_of (lines_of_parts at parts) ≡ join_with_byte 10 parts
    go at [] = refl
    go at ([] ∷ []) = refl
    go at ((b ∷ bs) ∷ []) = append-nil _ ∙ append-nil (b ∷ bs)
    go at (part ∷ next ∷ parts) =
        append_assoc part (10 ∷ []) _ ∙ ap (λ text. part ++ (10 ∷ text)) (go (at + length part + 1) (next ∷ parts))

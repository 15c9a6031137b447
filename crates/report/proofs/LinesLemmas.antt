-- Lines added behind lines.
use Rattle.std.proofs.Common.{◌≡◌, ℕ, suc, ◌+◌, List, [], ◌∷◌, ◌++◌, refl, sym, ap, ◌∙◌, append_assoc, arith}
use Rattle.std.specs.Prelude.{Bool, true, false, if◌then◌else◌, Result, Ok, Err, IfOk, codes}
use Rattle.std.proofs.lemmas.List.{append-nil}
use Rattle.csv.specs.Writing.{default_writer, row_text}
use Rattle.algebra.specs.Lists.{flat_to}
use Rattle.report.specs.Lines.{Cell, text, Line, alone, row, IsWrittenAs, AreWrittenAs, IsLine, AreLines, Adds}
use Rattle.report.specs.Reports.{said_line}

-- no line
pub nothing_added : (before : List ℕ) → Adds [] before before
nothing_added before = record { added = []; are_lines = refl; behind = sym (append-nil before) }

line_added : (line : Line) (bytes before after : List ℕ) → IsLine line bytes → after ≡ before ++ bytes → Adds (line ∷ []) before after
line_added line bytes before after h e = record { added = bytes; are_lines = (bytes, [], h, refl, sym (append-nil bytes)); behind = e }

-- a cell by itself
pub alone_added : (cell : Cell) (shown before after : List ℕ) → IsWrittenAs cell shown → after ≡ before ++ (shown ++ codes "\n") → Adds (alone cell ∷ []) before after
alone_added cell shown before after h e =
    line_added (alone cell) (shown ++ codes "\n") before after (record { shown = shown; is_shown = h; ends = refl }) e

pub said_added : (t before after : List ℕ) → after ≡ before ++ (t ++ codes "\n") → Adds (said_line t ∷ []) before after
said_added t before after e = alone_added (text t) t before after refl e

-- a row
pub row_added : (cells : List Cell) (shown : List (List ℕ)) (before after : List ℕ) → AreWrittenAs cells shown → after ≡ before ++ row_text default_writer shown
    → Adds (row cells ∷ []) before after
row_added cells shown before after h e =
    line_added (row cells) (row_text default_writer shown) before after (record { shown = shown; are_shown = h; is_record = refl }) e

pub two_cells : (a b : Cell) (s t : List ℕ) (before after : List ℕ) → IsWrittenAs a s → IsWrittenAs b t → after ≡ before ++ row_text default_writer (s ∷ t ∷ []) → Adds (row (a ∷ b ∷ []) ∷ []) before after
two_cells a b s t before after p q e = row_added (a ∷ b ∷ []) (s ∷ t ∷ []) before after (p, (q, tt)) e

pub three_cells : (a b c : Cell) (s t u : List ℕ) (before after : List ℕ) → IsWrittenAs a s → IsWrittenAs b t → IsWrittenAs c u
    → after ≡ before ++ row_text default_writer (s ∷ t ∷ u ∷ []) → Adds (row (a ∷ b ∷ c ∷ []) ∷ []) before after
three_cells a b c s t u before after p q r e = row_added (a ∷ b ∷ c ∷ []) (s ∷ t ∷ u ∷ []) before after (p, (q, (r, tt))) e

pub four_cells : (a b c d : Cell) (s t u v : List ℕ) (before after : List ℕ) → IsWrittenAs a s → IsWrittenAs b t → IsWrittenAs c u → IsWrittenAs d v
    → after ≡ before ++ row_text default_writer (s ∷ t ∷ u ∷ v ∷ []) → Adds (row (a ∷ b ∷ c ∷ d ∷ []) ∷ []) before after
four_cells a b c d s t u v before after p q r w e = row_added (a ∷ b ∷ c ∷ d ∷ []) (s ∷ t ∷ u ∷ v ∷ []) before after (p, (q, (r, (w, tt)))) e

pub seven_cells : (a b c d x y z : Cell) (s t u v k l m : List ℕ) (before after : List ℕ) → IsWrittenAs a s → IsWrittenAs b t → IsWrittenAs c u → IsWrittenAs d v → IsWrittenAs x k → IsWrittenAs y l → IsWrittenAs z m
    → after ≡ before ++ row_text default_writer (s ∷ t ∷ u ∷ v ∷ k ∷ l ∷ m ∷ []) → Adds (row (a ∷ b ∷ c ∷ d ∷ x ∷ y ∷ z ∷ []) ∷ []) before after
seven_cells a b c d x y z s t u v k l m before after p q r w f g h e =
    row_added (a ∷ b ∷ c ∷ d ∷ x ∷ y ∷ z ∷ []) (s ∷ t ∷ u ∷ v ∷ k ∷ l ∷ m ∷ []) before after (p, (q, (r, (w, (f, (g, (h, tt))))))) e

are_lines_both : (lines others : List Line) (a b : List ℕ) → AreLines lines a → AreLines others b → AreLines (lines ++ others) (a ++ b)
are_lines_both [] others a b h k = rw h k
are_lines_both (line ∷ lines) others a b h k =
    (h.0, h.1 ++ b, h.2, are_lines_both lines others h.1 b h.3 k, ap (λ xs. xs ++ b) h.4 ∙ append_assoc h.0 h.1 b)

-- lines, and others behind them
pub both_added : (lines others : List Line) (before between after : List ℕ) → Adds lines before between → Adds others between after → Adds (lines ++ others) before after
both_added lines others before between after h k = record {
  added = h.added ++ k.added;
  are_lines = are_lines_both lines others h.added k.added h.are_lines k.are_lines;
  behind = k.behind ∙ ap (λ xs. xs ++ k.added) h.behind ∙ append_assoc before h.added k.added;
}

-- one line, and others behind it
pub next_added : (line : Line) (others : List Line) (before between after : List ℕ) → Adds (line ∷ []) before between → Adds others between after → Adds (line ∷ others) before after
next_added line others before between after h k = both_added (line ∷ []) others before between after h k

pub three_added : (r s t : Line) (a b c d : List ℕ) → Adds (r ∷ []) a b → Adds (s ∷ []) b c → Adds (t ∷ []) c d → Adds (r ∷ s ∷ t ∷ []) a d
three_added r s t a b c d p q u = next_added r (s ∷ t ∷ []) a b d p (next_added s (t ∷ []) b c d q u)

pub six_added : (r s t u v w : Line) (a b c d e f g : List ℕ) → Adds (r ∷ []) a b → Adds (s ∷ []) b c → Adds (t ∷ []) c d → Adds (u ∷ []) d e → Adds (v ∷ []) e f → Adds (w ∷ []) f g
    → Adds (r ∷ s ∷ t ∷ u ∷ v ∷ w ∷ []) a g
six_added r s t u v w a b c d e f g p q x y z h =
    next_added r (s ∷ t ∷ u ∷ v ∷ w ∷ []) a b g p
    (next_added s (t ∷ u ∷ v ∷ w ∷ []) b c g q
    (next_added t (u ∷ v ∷ w ∷ []) c d g x (three_added u v w d e f g y z h)))

-- the lines of one more entry
pub one_more_added : (f : ℕ → List Line) (k : ℕ) (before between after : List ℕ) → Adds (flat_to f k) before between → Adds (f (k + 1)) between after → Adds (flat_to f (k + 1)) before after
one_more_added f k before between after h e =
    let next : k + 1 ≡ suc k = omega arith in
    let last = rw next at e in
    rw next (both_added (flat_to f k) (f (suc k)) before between after h last)

-- lines that are left out where a test holds
pub else_added : (test : Bool) (lines : List Line) (before after : List ℕ) → test ≡ false → Adds lines before after → Adds (if test then [] else lines) before after
else_added true lines before after e h = cc
else_added false lines before after e h = h

-- what follows from what a call gives where it succeeds
pub ok_gives : {A E P Q : Type 0} (r : Result A E) → IfOk r (λ _. P) → (P → Q) → IfOk r (λ _. Q)
ok_gives (Ok x) h f = f h
ok_gives (Err e) h f = tt

-- The lines of a plan text, part by part, spell what they are read as.
use Rattle.algebra.specs.Scale.{IsScale, greatest_scale}
use Rattle.std.proofs.Common.{◌≡◌, ℕ, ℤ, pos, negsuc, ◌-◌, ◌^◌, ◌<◌, ◌≤ℤ◌, Ok, List, [], ◌∷◌, ◌++◌, map, length, All, unsigned_abs, get_or, refl, ap, ap₂, subst, ◌∙◌, arith, append_assoc, codes}
use Rattle.std.proofs.lemmas.Int.{ints}
use Rattle.std.proofs.lemmas.List.{length-map}
use Rattle.std.proofs.lemmas.List.Elements.{All-nil, All-cons, All-head, All-tail}
use Rattle.road_types.specs.declared.road.Road.{Road}
use Rattle.road_types.specs.Road.{section_count, access_count}
use Rattle.plan_rules.specs.declared.plan.Piece.{Piece}
use Rattle.plan_rules.specs.Fits.{IsModeratePiece}
use Rattle.plan_rules.specs.inside.FitsByParts.{IsModerateRow}
use Rattle.plan_rules.proofs.FitsLemmas.{row_moderate, moderate_row}
use Rattle.text_parts.specs.Decimal.{IsShort}
use Rattle.text_parts.specs.Lines.{Reading, lines_of}
use Rattle.plan_text.specs.declared.rows.Stage.{Stage}
use Rattle.plan_text.specs.LineForms.{AreOfForm, short_numbers, greatest_short, spelled_line}
use Rattle.plan_text.specs.inside.LineReading.{Read, numbers_due}
use Rattle.plan_text.specs.PlanText.{piece_text}
use Rattle.plan_text.specs.LineForms.{den_form, piece_form, opens_form, end_form}
use Rattle.plan_text.specs.inside.PlanReading.{nth, den_due, piece_due, opens_due, stage_due}
use Rattle.plan_text.specs.Taken.{Took}
use Rattle.plan_text.proofs.WordLemmas.{IsWord, is_word}
use Rattle.plan_text.proofs.SpellsLemmas.{Spells, row_spells, made_spells, then_ok, given_is, took_then}

-- the same reader under another word for what fits
pub refit_spells : {A : Type 0} (read : Read A) (text : A → List ℕ) (Fit Other : A → Type 0) → Spells read text Fit → ((a : A) → Fit a → Other a) → ((a : A) → Other a → Fit a) → Spells read text Other
refit_spells read text Fit Other s there back =
    record {
      sound = λ before after a e. let got = s.sound before after a e in (got.0, there a got.1);
      complete = λ before at a rest h e. s.complete before at a rest (back a h) e;
    }

-- the denominator
den_short : (den : ℤ) → IsScale den → IsShort den
den_short (pos n) h = omega (arith, ints, h.at_most)
den_short (negsuc n) h = absurd (omega (arith, ints, h.from_one))

one_number : (numbers : List ℤ) → length numbers ≡ 1 → nth numbers 0 ∷ [] ≡ numbers
one_number [] e = absurd (omega (arith, e))
one_number (a ∷ []) e = refl
one_number (a ∷ b ∷ ns) e = absurd (omega (arith, e))

pub den_spells : Spells den_due (λ den. spelled_line (codes "plan") (den ∷ [])) IsScale
unfolding den_due
den_spells =
    made_spells (numbers_due den_form) (spelled_line (codes "plan")) (AreOfForm den_form) (λ numbers. nth numbers 0) (λ den. den ∷ []) IsScale
    (row_spells den_form (is_word (codes "plan") refl refl))
    (λ numbers h. (one_number numbers h.count, record { from_one = h.low 0 (pos 0) (omega (arith, h.count)); at_most = h.high 0 (pos 0) (omega (arith, h.count)) }))
    (λ den h. (
      refl,
      record {
        count = refl;
        low = All-cons (λ n. pos 1 ≤ℤ n) den [] h.from_one (All-nil (λ n. pos 1 ≤ℤ n));
        high = All-cons (λ n. n ≤ℤ pos greatest_scale) den [] h.at_most (All-nil (λ n. n ≤ℤ pos greatest_scale));
        short = All-cons IsShort den [] (den_short den h) (All-nil IsShort);
      },
    ))

-- short numbers are within their range
short_low : (n : ℤ) → IsShort n → negsuc (greatest_short - 1) ≤ℤ n
short_low (pos n) h = omega (arith, ints)
short_low (negsuc n) h = omega (arith, ints, h)

short_high : (n : ℤ) → IsShort n → n ≤ℤ pos greatest_short
short_high (pos n) h = omega (arith, ints, h)
short_high (negsuc n) h = omega (arith, ints)

short_of_form : (keyword : List ℕ) (count : ℕ) (numbers : List ℤ) → length numbers ≡ count → All IsShort numbers → AreOfForm (short_numbers keyword count) numbers
short_of_form keyword count numbers e h =
    record { count = e; low = λ k d l. short_low (get_or numbers k d) (h k d l); high = λ k d l. short_high (get_or numbers k d) (h k d l); short = h }

pub short_row_spells : (keyword : List ℕ) (count : ℕ) → IsWord keyword → Spells (numbers_due (short_numbers keyword count)) (spelled_line keyword) (IsModerateRow count)
short_row_spells keyword count w =
    refit_spells (numbers_due (short_numbers keyword count)) (spelled_line keyword) (AreOfForm (short_numbers keyword count)) (IsModerateRow count)
    (row_spells (short_numbers keyword count) w)
    (λ numbers h. row_moderate count numbers (h.count, h.short))
    (λ numbers h. let parts = moderate_row count numbers h in short_of_form keyword count numbers parts.0 parts.1)

-- a piece
three_numbers : (numbers : List ℤ) → length numbers ≡ 3 → nth numbers 0 ∷ nth numbers 1 ∷ nth numbers 2 ∷ [] ≡ numbers
three_numbers [] e = absurd (omega (arith, e))
three_numbers (a ∷ []) e = absurd (omega (arith, e))
three_numbers (a ∷ b ∷ []) e = absurd (omega (arith, e))
three_numbers (a ∷ b ∷ c ∷ []) e = refl
three_numbers (a ∷ b ∷ c ∷ d ∷ ns) e = absurd (omega (arith, e))

piece_short : (p : Piece) → IsModeratePiece p → All IsShort (p.a ∷ p.b ∷ p.c ∷ [])
piece_short p h = All-cons IsShort p.a (p.b ∷ p.c ∷ []) h.a (All-cons IsShort p.b (p.c ∷ []) h.b (All-cons IsShort p.c [] h.c (All-nil IsShort)))

pub piece_spells : Spells piece_due piece_text IsModeratePiece
unfolding piece_due
piece_spells =
    made_spells (numbers_due piece_form) (spelled_line (codes "piece")) (AreOfForm piece_form) (λ numbers. record { a = nth numbers 0; b = nth numbers 1; c = nth numbers 2 }) (λ p. p.a ∷ p.b ∷ p.c ∷ []) IsModeratePiece
    (row_spells piece_form (is_word (codes "piece") refl refl))
    (λ numbers h. (three_numbers numbers h.count, record { a = h.short 0 (pos 0) (omega (arith, h.count)); b = h.short 1 (pos 0) (omega (arith, h.count)); c = h.short 2 (pos 0) (omega (arith, h.count)) }))
    (λ p h. (refl, short_of_form (codes "piece") 3 (p.a ∷ p.b ∷ p.c ∷ []) refl (piece_short p h)))

-- the openings
pub record AreOpenings (blocks : ℕ) (opens : List ℕ) : Type 0 where
  pub count : length opens ≡ blocks
  pub bytes : All (λ stage. stage < 2 ^ 8) opens

same_opening : (n : ℤ) → pos 0 ≤ℤ n → pos (unsigned_abs n) ≡ n
same_opening (pos n) h = refl
same_opening (negsuc n) h = absurd (omega (arith, ints, h))

opens_back : (numbers : List ℤ) → All (λ n. pos 0 ≤ℤ n) numbers → map pos (map unsigned_abs numbers) ≡ numbers
opens_back [] h = refl
opens_back (n ∷ ns) h = ap₂ ◌∷◌ (same_opening n (All-head (λ n. pos 0 ≤ℤ n) n ns h)) (opens_back ns (All-tail (λ n. pos 0 ≤ℤ n) n ns h))

opens_there : (opens : List ℕ) → map unsigned_abs (map pos opens) ≡ opens
opens_there [] = refl
opens_there (k ∷ ks) = ap (λ os. k ∷ os) (opens_there ks)

opening_byte : (n : ℤ) → pos 0 ≤ℤ n → n ≤ℤ pos 255 → unsigned_abs n < 2 ^ 8
opening_byte (pos n) l h = omega (arith, ints, h)
opening_byte (negsuc n) l h = absurd (omega (arith, ints, l))

openings_bytes : (numbers : List ℤ) → All (λ n. pos 0 ≤ℤ n) numbers → All (λ n. n ≤ℤ pos 255) numbers → All (λ stage. stage < 2 ^ 8) (map unsigned_abs numbers)
openings_bytes [] l h = All-nil (λ stage. stage < 2 ^ 8)
openings_bytes (n ∷ ns) l h =
    All-cons (λ stage. stage < 2 ^ 8) (unsigned_abs n) (map unsigned_abs ns)
    (opening_byte n (All-head (λ n. pos 0 ≤ℤ n) n ns l) (All-head (λ n. n ≤ℤ pos 255) n ns h))
    (openings_bytes ns (All-tail (λ n. pos 0 ≤ℤ n) n ns l) (All-tail (λ n. n ≤ℤ pos 255) n ns h))

bytes_of_form : (blocks : ℕ) (opens : List ℕ) → length opens ≡ blocks → All (λ stage. stage < 2 ^ 8) opens → AreOfForm (opens_form blocks) (map pos opens)
bytes_of_form blocks opens e h = record { count = length-map opens pos ∙ e; low = low opens; high = high opens h; short = short opens h }
  where
    low : (opens : List ℕ) → All (λ n. pos 0 ≤ℤ n) (map pos opens)
    low [] = All-nil (λ n. pos 0 ≤ℤ n)
    low (k ∷ ks) = All-cons (λ n. pos 0 ≤ℤ n) (pos k) (map pos ks) (omega (arith, ints)) (low ks)

    high : (opens : List ℕ) → All (λ stage. stage < 2 ^ 8) opens → All (λ n. n ≤ℤ pos 255) (map pos opens)
    high [] h = All-nil (λ n. n ≤ℤ pos 255)
    high (k ∷ ks) h = All-cons (λ n. n ≤ℤ pos 255) (pos k) (map pos ks) (omega (arith, ints, All-head (λ stage. stage < 2 ^ 8) k ks h)) (high ks (All-tail (λ stage. stage < 2 ^ 8) k ks h))

    short : (opens : List ℕ) → All (λ stage. stage < 2 ^ 8) opens → All IsShort (map pos opens)
    short [] h = All-nil IsShort
    short (k ∷ ks) h = All-cons IsShort (pos k) (map pos ks) (omega (arith, All-head (λ stage. stage < 2 ^ 8) k ks h)) (short ks (All-tail (λ stage. stage < 2 ^ 8) k ks h))

pub opens_spells : (blocks : ℕ) → Spells (opens_due blocks) (λ opens. spelled_line (codes "open") (map pos opens)) (AreOpenings blocks)
unfolding opens_due
opens_spells blocks =
    made_spells (numbers_due (opens_form blocks)) (spelled_line (codes "open")) (AreOfForm (opens_form blocks)) (map unsigned_abs) (map pos) (AreOpenings blocks)
    (row_spells (opens_form blocks) (is_word (codes "open") refl refl))
    (λ numbers h. (opens_back numbers h.low, record { count = length-map numbers unsigned_abs ∙ h.count; bytes = openings_bytes numbers h.low h.high }))
    (λ opens h. (opens_there opens, bytes_of_form blocks opens h.count h.bytes))

-- the last line
pub end_spells : Spells (numbers_due end_form) (spelled_line (codes "end")) (IsModerateRow 0)
end_spells = short_row_spells (codes "end") 0 (is_word (codes "end") refl refl)

-- the rows of a stage
pub record IsStageOf (road : Road) (s : Stage) : Type 0 where
  pub cut : IsModerateRow (section_count road) s.cut
  pub fill : IsModerateRow (section_count road) s.fill
  pub right : IsModerateRow (section_count road - 1) s.right
  pub left : IsModerateRow (section_count road - 1) s.left
  pub roads : IsModerateRow (access_count road) s.roads

abbrev pub rows_text : Stage → List ℕ
rows_text s =
    spelled_line (codes "cut") s.cut ++ (spelled_line (codes "fill") s.fill ++ (spelled_line (codes "right") s.right ++ (spelled_line (codes "left") s.left ++ spelled_line (codes "roads") s.roads)))

cut_spells : (road : Road) → Spells (numbers_due (short_numbers (codes "cut") (section_count road))) (spelled_line (codes "cut")) (IsModerateRow (section_count road))
cut_spells road = short_row_spells (codes "cut") (section_count road) (is_word (codes "cut") refl refl)

fill_spells : (road : Road) → Spells (numbers_due (short_numbers (codes "fill") (section_count road))) (spelled_line (codes "fill")) (IsModerateRow (section_count road))
fill_spells road = short_row_spells (codes "fill") (section_count road) (is_word (codes "fill") refl refl)

right_spells : (road : Road) → Spells (numbers_due (short_numbers (codes "right") (section_count road - 1))) (spelled_line (codes "right")) (IsModerateRow (section_count road - 1))
right_spells road = short_row_spells (codes "right") (section_count road - 1) (is_word (codes "right") refl refl)

left_spells : (road : Road) → Spells (numbers_due (short_numbers (codes "left") (section_count road - 1))) (spelled_line (codes "left")) (IsModerateRow (section_count road - 1))
left_spells road = short_row_spells (codes "left") (section_count road - 1) (is_word (codes "left") refl refl)

roads_spells : (road : Road) → Spells (numbers_due (short_numbers (codes "roads") (access_count road))) (spelled_line (codes "roads")) (IsModerateRow (access_count road))
roads_spells road = short_row_spells (codes "roads") (access_count road) (is_word (codes "roads") refl refl)

stage_sound : (road : Road) (before after : Reading) (s : Stage) → stage_due road before ≡ Ok (s, after) → Took before after (rows_text s) × IsStageOf road s
unfolding stage_due
stage_sound road before after s e =
    let cut = then_ok _ _ s after e in
    let fill = then_ok _ _ s after cut.3 in
    let right = then_ok _ _ s after fill.3 in
    let left = then_ok _ _ s after right.3 in
    let roads = then_ok _ _ s after left.3 in
    let rows : Stage = record { cut = cut.0; fill = fill.0; right = right.0; left = left.0; roads = roads.0 } in
    let given = given_is rows s roads.1 after roads.3 in
    let c = (cut_spells road).sound before cut.1 cut.0 cut.2 in
    let f = (fill_spells road).sound cut.1 fill.1 fill.0 fill.2 in
    let r = (right_spells road).sound fill.1 right.1 right.0 right.2 in
    let l = (left_spells road).sound right.1 left.1 left.0 left.2 in
    let q = (roads_spells road).sound left.1 roads.1 roads.0 roads.2 in
    let P : Stage → Reading → Type 0 = λ s r. Took before r (rows_text s) × IsStageOf road s in
    subst (λ r. P s r) given.1
    (subst (λ s. P s roads.1) given.0 (
      took_then before cut.1 roads.1 _ _ c.0 (took_then cut.1 fill.1 roads.1 _ _ f.0 (took_then fill.1 right.1 roads.1 _ _ r.0 (took_then right.1 left.1 roads.1 _ _ l.0 q.0))),
      record { cut = c.1; fill = f.1; right = r.1; left = l.1; roads = q.1 },
    ))

stage_complete : (road : Road) (before : Reading) (at : ℕ) (s : Stage) (rest : List ℕ) → IsStageOf road s → before.left ≡ lines_of at (rows_text s ++ rest) → (after : Reading) × (place : ℕ) × (stage_due road before ≡ Ok (s, after)) × (after.left ≡ lines_of place rest)
unfolding stage_due
stage_complete road before at s rest h e =
    let left_text = spelled_line (codes "left") s.left ++ spelled_line (codes "roads") s.roads in
    let right_text = spelled_line (codes "right") s.right ++ left_text in
    let fill_text = spelled_line (codes "fill") s.fill ++ right_text in
    let c = (cut_spells road).complete before at s.cut (fill_text ++ rest) h.cut (e ∙ ap (lines_of at) (append_assoc (spelled_line (codes "cut") s.cut) fill_text rest)) in
    let f = (fill_spells road).complete c.0 c.1 s.fill (right_text ++ rest) h.fill (c.3 ∙ ap (lines_of c.1) (append_assoc (spelled_line (codes "fill") s.fill) right_text rest)) in
    let r = (right_spells road).complete f.0 f.1 s.right (left_text ++ rest) h.right (f.3 ∙ ap (lines_of f.1) (append_assoc (spelled_line (codes "right") s.right) left_text rest)) in
    let l = (left_spells road).complete r.0 r.1 s.left (spelled_line (codes "roads") s.roads ++ rest) h.left (r.3 ∙ ap (lines_of r.1) (append_assoc (spelled_line (codes "left") s.left) (spelled_line (codes "roads") s.roads) rest)) in
    let q = (roads_spells road).complete l.0 l.1 s.roads rest h.roads l.3 in
    (q.0, q.1, rw (c.2, f.2, r.2, l.2, q.2) refl, q.3)

pub stage_spells : (road : Road) → Spells (stage_due road) rows_text (IsStageOf road)
stage_spells road = record { sound = stage_sound road; complete = stage_complete road }

-- How long the text of a certificate can be: at most 2^26 bytes, within the greatest budget of nodes.
use Rattle.std.proofs.Common.{◌≡◌, ℕ, zero, suc, ◌+◌, ◌-◌, ◌*◌, ◌^◌, ◌≤◌, ◌<◌, Option, Some, None, List, [], ◌∷◌, ◌++◌, length, length-append, map, ⊎_elim, refl, ap, subst, arith, codes}
use Rattle.std.specs.Prelude.{ℤ, pos, negsuc, unsigned_abs}
use Rattle.std.specs.List.{All, join_with_byte, flat_map}
use Rattle.std.specs.Fmt.{signed_decimal}
use Rattle.std.proofs.lemmas.Int.{ints}
use Rattle.std.proofs.lemmas.Fmt.{length-decimal-le, length-decimal-le_wide}
use Rattle.std.proofs.lemmas.List.Elements.{All-nil, All-cons, All-head, All-tail, All-map, All-weaker}
use Rattle.std.proofs.lemmas.List.{length-map}
use Rattle.algebra.proofs.NumberedLemmas.{all_numbered}
use Rattle.plan_rules.proofs.FitsLemmas.{moderate_pieces}
use Rattle.road_points.proofs.PointShows.{is_number_or_not, numbered_none}
use Rattle.road_types.specs.Road.{section_count, access_count}
use Rattle.numbers.specs.Fractions.{Fraction, fraction_text}
use Rattle.text_parts.specs.Words.{space}
use Rattle.text_parts.specs.Lines.{line_feed}
use Rattle.road_types.specs.Numbered.{numbered, IsNumber}
use Rattle.road_types.specs.Accepted.{IsAccepted}
use Rattle.road_types.specs.RoadPrograms.{row_count}
use Rattle.road_types.specs.declared.road.Road.{Road}
use Rattle.plan_rules.specs.declared.plan.Plan.{Plan}
use Rattle.plan_rules.specs.declared.plan.Piece.{Piece}
use Rattle.plan_rules.specs.Plans.{IsTableOf, amount}
use Rattle.plan_rules.specs.Fits.{Fits, IsModerate, IsModeratePiece}
use Rattle.plan_text.specs.LineForms.{spelled_line}
use Rattle.plan_text.specs.PlanText.{HasText, tables_of, piece_text, stage_text, stages_text, plan_text}
use Rattle.milp_builder.specs.declared.boxes.Split.{Split}
use Rattle.milp_builder.specs.declared.boxes.Split.TheVariants.{Removal, Height}
use Rattle.cert_tree.specs.declared.tree.Why.{Why}
use Rattle.cert_tree.specs.declared.tree.Why.TheVariants.{Nodes, Pivots, Width}
use Rattle.cert_tree.specs.Trees.{BoxTree, low, dead, fork, AreMultipliersBehind, node_count}
use Rattle.cert_text.specs.NodeText.{low_leaf, dead_leaf, split_at, spelled_words, cause_word, low_words, dead_words, mult_words, mults_text, root_text, tree_text, IsSpelledSplit, IsRoot, IsSpelledTree, most_levels}
use Rattle.cert_text.specs.CertText.{Certificate, planned_text, bound_words, cert_text, IsStated, IsStatedOrNone, IsPricedOrNone, HasCertText}
use Rattle.cert_text.specs.declared.heading.PricedPlan.{PricedPlan}

-- the bytes of words that stand behind each other with one byte between
words_length : List (List ℕ) → ℕ
words_length [] = 0
words_length (w ∷ ws) = (length w + 1) + words_length ws

words_none : words_length [] ≡ 0
unfolding words_length
words_none = refl

words_more : (w : List ℕ) (ws : List (List ℕ)) → words_length (w ∷ ws) ≡ (length w + 1) + words_length ws
unfolding words_length
words_more w ws = refl

join_one : (c : ℕ) (w : List ℕ) → join_with_byte c (w ∷ []) ≡ w
join_one c w = refl

join_more : (c : ℕ) (w v : List ℕ) (ws : List (List ℕ)) → join_with_byte c (w ∷ v ∷ ws) ≡ w ++ (c ∷ join_with_byte c (v ∷ ws))
join_more c w v ws = refl

join_length : (c : ℕ) (w : List ℕ) (ws : List (List ℕ)) → length (join_with_byte c (w ∷ ws)) + 1 ≤ words_length (w ∷ ws)
join_length c w [] = omega (arith, ap length (join_one c w), words_more w [], words_none)
join_length c w (v ∷ ws) =
    omega (
      arith,
      ap length (join_more c w v ws),
      length-append w (c ∷ join_with_byte c (v ∷ ws)),
      words_more w (v ∷ ws),
      join_length c v ws,
    )

-- a line of words: each has one byte behind it
line_length : (w : List ℕ) (ws : List (List ℕ)) → length (spelled_words (w ∷ ws)) ≤ words_length (w ∷ ws)
line_length w ws = omega (arith, length-append (join_with_byte space (w ∷ ws)) (line_feed ∷ []), join_length space w ws)

line_one : (a : List ℕ) → length (spelled_words (a ∷ [])) ≤ length a + 1
line_one a = omega (arith, line_length a [], words_more a [], words_none)

line_two : (a b : List ℕ) → length (spelled_words (a ∷ b ∷ [])) ≤ (length a + length b) + 2
line_two a b = omega (arith, line_length a (b ∷ []), words_more a (b ∷ []), words_more b [], words_none)

line_three : (a b c : List ℕ) → length (spelled_words (a ∷ b ∷ c ∷ [])) ≤ ((length a + length b) + length c) + 3
line_three a b c = omega (arith, line_length a (b ∷ c ∷ []), words_more a (b ∷ c ∷ []), words_more b (c ∷ []), words_more c [], words_none)

line_four : (a b c d : List ℕ) → length (spelled_words (a ∷ b ∷ c ∷ d ∷ [])) ≤ (((length a + length b) + length c) + length d) + 4
line_four a b c d =
    omega (
      arith,
      line_length a (b ∷ c ∷ d ∷ []),
      words_more a (b ∷ c ∷ d ∷ []),
      words_more b (c ∷ d ∷ []),
      words_more c (d ∷ []),
      words_more d [],
      words_none,
    )

-- a number of up to so many digits
wide_length : (k : ℕ) (z : ℤ) → 0 < k → k ≤ 60 → unsigned_abs z < 10 ^ k → 10 ^ k < 10 ^ 64 → length (signed_decimal z) ≤ k + 1
wide_length k (pos n) some few small top = omega (arith, length-decimal-le_wide k n some small (omega (arith, small, top)))
wide_length k (negsuc n) some few small top = omega (arith, length-decimal-le_wide k (suc n) some small (omega (arith, small, top)))

-- a number below 10^k, without a sign
plain_length : (k n : ℕ) → 0 < k → n < 10 ^ k → n < 2 ^ 64 → length (signed_decimal (pos n)) ≤ k
plain_length k n some small fits = length-decimal-le k n some small fits

mult_length : (rows before : ℕ) (mult : ℕ × ℤ) → mult.0 ≤ 600 → unsigned_abs mult.1 ≤ 2 ^ 40 → length (spelled_words (mult_words mult)) ≤ 21
mult_length rows before mult row small =
    let line = line_three (codes "m") (signed_decimal (pos mult.0)) (signed_decimal mult.1) in
    let first = plain_length 3 mult.0 (omega arith) (omega arith) (omega arith) in
    let second = wide_length 13 mult.1 (omega arith) (omega arith) (omega (arith, small)) (omega arith) in
    omega (arith, line, first, second)

mults_length : (rows before : ℕ) (mults : List (ℕ × ℤ)) → rows ≤ 600 → AreMultipliersBehind rows before mults
    → length (mults_text mults) ≤ 21 * (rows - before)
mults_length rows before [] few h = omega arith
mults_length rows before (mult ∷ mults) few h =
    let one = mult_length rows before mult (let r = h.0.row in omega arith) h.0.within in
    let more = mults_length rows mult.0 mults few h.1 in
    let b = h.0.behind in
    let r = h.0.row in
    omega (arith, length-append (spelled_words (mult_words mult)) (mults_text mults), one, more)

mults_count : (rows before : ℕ) (mults : List (ℕ × ℤ)) → AreMultipliersBehind rows before mults → length mults ≤ rows - before
mults_count rows before [] h = omega arith
mults_count rows before (mult ∷ mults) h =
    let more = mults_count rows mult.0 mults h.1 in
    let b = h.0.behind in
    let r = h.0.row in
    omega (arith, more)

cause_length : (cause : Option Why) → length (cause_word cause) ≤ 6
cause_length None = omega arith
cause_length (Some Nodes) = omega arith
cause_length (Some Pivots) = omega arith
cause_length (Some Width) = omega arith

low_length : (rows : ℕ) (scale : ℤ) (mults : List (ℕ × ℤ)) (cause : Option Why) → rows ≤ 600 → IsRoot rows (low_leaf scale mults cause)
    → length (root_text (low_leaf scale mults cause)) ≤ 12700
low_length rows scale mults cause few h =
    let from = h.0.from_one in
    let to = h.0.at_most in
    let count = mults_count rows 0 mults h.1 in
    let scale_is = wide_length 13 scale (omega arith) (omega arith) (omega (arith, ints, from, to)) (omega arith) in
    let count_is = plain_length 3 (length mults) (omega arith) (omega (arith, count)) (omega (arith, count)) in
    let line = line_four (codes "low") (signed_decimal scale) (cause_word cause) (signed_decimal (pos (length mults))) in
    omega (
      arith,
      length-append (spelled_words (low_words scale cause (length mults))) (mults_text mults),
      line,
      scale_is,
      count_is,
      cause_length cause,
      mults_length rows 0 mults few h.1,
    )

dead_length : (rows : ℕ) (mults : List (ℕ × ℤ)) → rows ≤ 600 → IsRoot rows (dead_leaf mults) → length (root_text (dead_leaf mults)) ≤ 12700
dead_length rows mults few h =
    let count = mults_count rows 0 mults h in
    let count_is = plain_length 3 (length mults) (omega arith) (omega (arith, count)) (omega (arith, count)) in
    let line = line_two (codes "dead") (signed_decimal (pos (length mults))) in
    omega (arith, length-append (spelled_words (dead_words (length mults))) (mults_text mults), line, count_is, mults_length rows 0 mults few h)

split_length : (split : Split) → IsSpelledSplit split → length (root_text (split_at split)) ≤ 12700
split_length (Removal block stage) h =
    let line = line_four (codes "split") (codes "removal") (signed_decimal (pos block)) (signed_decimal (pos stage)) in
    let first = plain_length 18 block (omega arith) h.0 (let s = h.0 in omega arith) in
    let second = plain_length 18 stage (omega arith) h.1 (let s = h.1 in omega arith) in
    omega (arith, line, first, second)
split_length (Height section at) h =
    let line = line_four (codes "split") (codes "height") (signed_decimal (pos section)) (signed_decimal at) in
    let first = plain_length 18 section (omega arith) h.0 (let s = h.0 in omega arith) in
    let second = wide_length 18 at (omega arith) (omega arith) (let s = h.1 in omega (arith, ints, s)) (omega arith) in
    omega (arith, line, first, second)

-- a tree's text, by its nodes
pub tree_length : (rows levels : ℕ) (tree : BoxTree) → rows ≤ 600 → IsSpelledTree rows levels tree → length (tree_text tree) ≤ 12700 * node_count tree
tree_length rows zero tree few h = absurd h
tree_length rows (suc levels) (low scale mults cause) few h = low_length rows scale mults cause few h
tree_length rows (suc levels) (dead mults) few h = dead_length rows mults few h
tree_length rows (suc levels) (fork split first second) few h =
    let here = split_length split h.0 in
    let one = tree_length rows levels first few h.1 in
    let two = tree_length rows levels second few h.2 in
    omega (
      arith,
      length-append (root_text (split_at split)) (tree_text first ++ tree_text second),
      length-append (tree_text first) (tree_text second),
      here,
      one,
      two,
    )

-- ---- numbers of up to so many digits

moderate_length : (z : ℤ) → IsModerate z → length (signed_decimal z) ≤ 31
moderate_length z m = wide_length 30 z (omega arith) (omega arith) m (omega arith)

map_none : map signed_decimal [] ≡ []
map_none = refl

map_more : (z : ℤ) (numbers : List ℤ) → map signed_decimal (z ∷ numbers) ≡ signed_decimal z ∷ map signed_decimal numbers
map_more z numbers = refl

words_of_numbers : (numbers : List ℤ) → All IsModerate numbers → words_length (map signed_decimal numbers) ≤ 32 * length numbers
words_of_numbers [] all = omega (arith, ap words_length map_none, words_none)
words_of_numbers (z ∷ numbers) all =
    omega (
      arith,
      ap words_length (map_more z numbers),
      words_more (signed_decimal z) (map signed_decimal numbers),
      moderate_length z (All-head IsModerate z numbers all),
      words_of_numbers numbers (All-tail IsModerate z numbers all),
    )

-- a row of numbers
numbers_length : (keyword : List ℕ) (numbers : List ℤ) → All IsModerate numbers → length (spelled_line keyword numbers) ≤ length keyword + 1 + 32 * length numbers
numbers_length keyword numbers all =
    let same : spelled_line keyword numbers ≡ join_with_byte space (keyword ∷ map signed_decimal numbers) ++ (line_feed ∷ []) = refl in
    let last : length (line_feed ∷ []) ≡ 1 = refl in
    omega (
      arith,
      ap length same,
      last,
      length-append (join_with_byte space (keyword ∷ map signed_decimal numbers)) (line_feed ∷ []),
      join_length space keyword (map signed_decimal numbers),
      words_more keyword (map signed_decimal numbers),
      words_of_numbers numbers all,
    )

-- ---- a plan's text

table_row : (stages entries : ℕ) (rows : List (List ℤ)) (t : ℕ) → IsTableOf stages entries rows → ((t i : ℕ) → IsModerate (amount rows t i)) → entries ≤ 60
    → (length (numbered [] rows t) ≤ 60) × All IsModerate (numbered [] rows t)
table_row stages entries rows t table moderate few =
    let all : All IsModerate (numbered [] rows t) = all_numbered IsModerate (pos 0) (numbered [] rows t) (moderate t) in
    ⊎_elim
    (λ (n : IsNumber t stages). (omega (arith, table.each_length t n), all))
    (λ (n : IsNumber t stages → ⊥).
    let none : numbered [] rows t ≡ [] = numbered_none [] rows t (λ m. n (subst (IsNumber t) table.length_is m)) in
    (omega (arith, ap length none), all))
    (is_number_or_not t stages)

module _ (road : Road) (a : IsAccepted road) (plan : Plan) (text : HasText road plan) where
  fits : Fits road plan
  fits = text.fits

  opens_all : All IsModerate (map pos plan.opens)
  opens_all =
      All-map IsModerate pos plan.opens
      (All-weaker (λ (stage : ℕ). stage < 2 ^ 8) (λ (stage : ℕ). IsModerate (pos stage)) (λ stage l. omega (arith, ints)) plan.opens text.openings)

  stage_length : (t : ℕ) → length (stage_text (tables_of plan) t) ≤ 10000
  stage_length t =
      let p = fits.is_plan in
      let sections = a.well_formed.counted.sections_to in
      let roads_to = a.well_formed.counted.roads_to in
      let cut = table_row road.stages (section_count road) plan.cut t p.cut fits.cut sections in
      let fill = table_row road.stages (section_count road) plan.fill t p.fill fits.fill sections in
      let right = table_row road.stages (section_count road - 1) plan.right t p.right fits.right (omega (arith, sections)) in
      let left = table_row road.stages (section_count road - 1) plan.left t p.left fits.left (omega (arith, sections)) in
      let roads = table_row road.stages (access_count road) plan.roads t p.roads fits.roads (omega (arith, roads_to)) in
      let cut_line = spelled_line (codes "cut") (numbered [] plan.cut t) in
      let fill_line = spelled_line (codes "fill") (numbered [] plan.fill t) in
      let right_line = spelled_line (codes "right") (numbered [] plan.right t) in
      let left_line = spelled_line (codes "left") (numbered [] plan.left t) in
      let roads_line = spelled_line (codes "roads") (numbered [] plan.roads t) in
      omega (
        arith,
        numbers_length (codes "cut") (numbered [] plan.cut t) cut.1,
        cut.0,
        numbers_length (codes "fill") (numbered [] plan.fill t) fill.1,
        fill.0,
        numbers_length (codes "right") (numbered [] plan.right t) right.1,
        right.0,
        numbers_length (codes "left") (numbered [] plan.left t) left.1,
        left.0,
        numbers_length (codes "roads") (numbered [] plan.roads t) roads.1,
        roads.0,
        length-append cut_line (fill_line ++ (right_line ++ (left_line ++ roads_line))),
        length-append fill_line (right_line ++ (left_line ++ roads_line)),
        length-append right_line (left_line ++ roads_line),
        length-append left_line roads_line,
      )

  stages_length : (t count : ℕ) → length (stages_text (tables_of plan) t count) ≤ 10000 * count
  stages_length t zero = omega arith
  stages_length t (suc count) =
      omega (arith, length-append (stage_text (tables_of plan) t) (stages_text (tables_of plan) (suc t) count), stage_length t, stages_length (suc t) count)

  piece_length : (piece : Piece) → IsModeratePiece piece → length (piece_text piece) ≤ 200
  piece_length piece m =
      let all : All IsModerate (piece.a ∷ piece.b ∷ piece.c ∷ []) =
      All-cons IsModerate piece.a (piece.b ∷ piece.c ∷ []) m.a (All-cons IsModerate piece.b (piece.c ∷ []) m.b (All-cons IsModerate piece.c [] m.c (All-nil IsModerate))) in
      omega (arith, numbers_length (codes "piece") (piece.a ∷ piece.b ∷ piece.c ∷ []) all)

  pieces_length : (pieces : List Piece) → All IsModeratePiece pieces → length (flat_map piece_text pieces) ≤ 200 * length pieces
  pieces_length [] all = omega arith
  pieces_length (piece ∷ pieces) all =
      omega (
        arith,
        length-append (piece_text piece) (flat_map piece_text pieces),
        piece_length piece (All-head IsModeratePiece piece pieces all),
        pieces_length pieces (All-tail IsModeratePiece piece pieces all),
      )

  pub plan_length : length (plan_text road plan) ≤ 100000
  unfolding plan_text
  plan_length =
      let p = fits.is_plan in
      let one : All IsModerate (plan.den ∷ []) = All-cons IsModerate plan.den [] (let f = fits.den.from_one in let t = fits.den.at_most in omega (arith, ints)) (All-nil IsModerate) in
      let stages_to = a.well_formed.counted.stages_to in
      let knots_to = a.well_formed.counted.knots_to in
      let blocks_to = a.well_formed.counted.blocks_to in
      let opens = map pos plan.opens in
      let pieces = moderate_pieces plan.pieces fits.pieces in
      let den_line = spelled_line (codes "plan") (plan.den ∷ []) in
      let piece_lines = flat_map piece_text plan.pieces in
      let stage_lines = stages_text (tables_of plan) 1 road.stages in
      let open_line = spelled_line (codes "open") opens in
      let end_line = spelled_line (codes "end") [] in
      omega (
        arith,
        length-append den_line (piece_lines ++ (stage_lines ++ (open_line ++ end_line))),
        length-append piece_lines (stage_lines ++ (open_line ++ end_line)),
        length-append stage_lines (open_line ++ end_line),
        length-append open_line end_line,
        numbers_length (codes "plan") (plan.den ∷ []) one,
        pieces_length plan.pieces pieces,
        p.pieces,
        knots_to,
        stages_length 1 road.stages,
        stages_to,
        numbers_length (codes "open") opens opens_all,
        length-map plan.opens pos,
        p.opens,
        blocks_to,
        numbers_length (codes "end") [] (All-nil IsModerate),
      )

-- ---- a certificate's text

fraction_length : (f : Fraction) → IsStated f → length (fraction_text f) ≤ 60
fraction_length f h =
    let num = wide_length 27 f.num (omega arith) (omega arith) (let w = h.num_within in omega arith) (omega arith) in
    let from = h.den_within.from_one in
    let to = h.den_within.at_most in
    let den = wide_length 13 f.den (omega arith) (omega arith) (omega (arith, ints, from, to)) (omega arith) in
    omega (arith, num, den, length-append (signed_decimal f.num) (codes "/" ++ signed_decimal f.den), length-append (codes "/") (signed_decimal f.den))

bound_length : (bound : Option Fraction) → IsStatedOrNone bound → length (spelled_words (bound_words bound)) ≤ 100
bound_length None h = omega (arith, line_two (codes "no") (codes "bound"))
bound_length (Some bound) h = omega (arith, line_two (codes "bound") (fraction_text bound), fraction_length bound h)

planned_length : (road : Road) → IsAccepted road → (planned : Option PricedPlan) → IsPricedOrNone road planned → length (planned_text road planned) ≤ 100100
planned_length road a None h = omega (arith, line_one (codes "unplanned"))
planned_length road a (Some priced) h =
    omega (
      arith,
      length-append (plan_text road priced.plan) (spelled_words (codes "cost" ∷ fraction_text priced.cost ∷ [])),
      plan_length road a priced.plan h.0,
      line_two (codes "cost") (fraction_text priced.cost),
      fraction_length priced.cost h.1,
    )

pub cert_length : (road : Road) → IsAccepted road → (cert : Certificate) → HasCertText road cert → node_count cert.tree ≤ 4999 → length (cert_text road cert) ≤ 2 ^ 26
unfolding cert_text
cert_length road a cert h few =
    let head = spelled_words (codes "certificate" ∷ []) in
    let planned = planned_text road cert.planned in
    let bound = spelled_words (bound_words cert.bound) in
    let tree = tree_text cert.tree in
    let end = spelled_words (codes "end" ∷ []) in
    omega (
      arith,
      length-append head (planned ++ (bound ++ (tree ++ end))),
      length-append planned (bound ++ (tree ++ end)),
      length-append bound (tree ++ end),
      length-append tree end,
      line_one (codes "certificate"),
      planned_length road a cert.planned h.planned,
      bound_length cert.bound h.bound,
      tree_length (row_count road) most_levels cert.tree a.rows h.tree,
      few,
      line_one (codes "end"),
    )

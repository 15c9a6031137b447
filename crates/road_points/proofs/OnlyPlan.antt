-- Two admissible plans over one denominator with the same point are one plan.
use Rattle.std.proofs.Common.{◌≡◌, ℕ, suc, ◌-◌, ◌≤◌, ◌<◌, List, [], length, arith, ap, sym, ◌∙◌, subst, ⊎_elim}
use Rattle.std.specs.Prelude.{ℤ, pos}
use Rattle.std.proofs.lemmas.Int.{ints}
use Rattle.std.proofs.lemmas.Bool.{cases_lt}
use Rattle.std.proofs.lemmas.List.{same_lists}
use Rattle.road_types.specs.Numbered.{numbered, IsNumber}
use Rattle.road_types.specs.Road.{section_count, access_count, block_count}
use Rattle.road_types.specs.WellFormed.{IsWellFormed}
use Rattle.road_types.specs.declared.road.Road.{Road}
use Rattle.road_types.specs.declared.column.Column.{Column}
use Rattle.plan_rules.specs.declared.plan.Piece.{Piece}
use Rattle.plan_rules.specs.declared.plan.Plan.{Plan}
use Rattle.plan_rules.specs.Plans.{no_piece, piece_of, amount, opening, IsTableOf}
use Rattle.plan_rules.specs.Rules.{IsAdmissible, IsOpening}
use Rattle.road_points.specs.PlanPoints.{point_of}
use Rattle.road_points.specs.Shown.{shown}
use Rattle.road_points.proofs.Shows.{ShowsPieces, ShowsAmounts, ShowsOpenings}
use Rattle.road_points.proofs.PlanFacts.{facts_of_admissible}
use Rattle.road_points.proofs.PointShows.{number_along, opened_before, opened_from, point_shows_pieces, point_shows_amounts, point_shows_openings}
use Rattle.road_points.proofs.PointsArePlans.{other_default}

-- lists with the same entries by number are one
same_by_number : {A : Type 0} (other : A) (xs ys : List A) → length xs ≡ length ys → ((k : ℕ) → IsNumber k (length xs) → numbered other xs k ≡ numbered other ys k) → xs ≡ ys
same_by_number other xs ys e h =
    same_lists xs ys e
    (λ k d l.
    other_default d other xs k l
    ∙ h (suc k) (record { from_one = omega arith; at_most = omega arith })
    ∙ other_default other d ys k (omega arith))

same_tables : (stages entries : ℕ) (xs ys : List (List ℤ)) → IsTableOf stages entries xs → IsTableOf stages entries ys → ((t i : ℕ) → amount xs t i ≡ amount ys t i) → xs ≡ ys
same_tables stages entries xs ys p q h =
    same_by_number [] xs ys (p.length_is ∙ sym q.length_is)
    (λ t n.
    let s = number_along t (length xs) stages p.length_is n in
    same_by_number (pos 0) (numbered [] xs t) (numbered [] ys t) (p.each_length t s ∙ sym (q.each_length t s)) (λ i m. h t i))

same_pieces : (p q : Piece) → p.a ≡ q.a → p.b ≡ q.b → p.c ≡ q.c → p ≡ q
same_pieces p q a b c =
    ap (λ x. let r : Piece = record { a = x; b = p.b; c = p.c } in r) a
    ∙ ap (λ x. let r : Piece = record { a = q.a; b = x; c = p.c } in r) b
    ∙ ap (λ x. let r : Piece = record { a = q.a; b = q.b; c = x } in r) c

-- plans with the same parts are one
pub same_parts : (p q : Plan) → p.den ≡ q.den → p.pieces ≡ q.pieces → p.cut ≡ q.cut → p.fill ≡ q.fill → p.right ≡ q.right → p.left ≡ q.left → p.roads ≡ q.roads
    → p.opens ≡ q.opens → p ≡ q
same_parts p q d0 d1 d2 d3 d4 d5 d6 d7 =
    ap (λ x. record p { den = x }) d0
    ∙ ap (λ x. record p { den = q.den; pieces = x }) d1
    ∙ ap (λ x. record p { den = q.den; pieces = q.pieces; cut = x }) d2
    ∙ ap (λ x. record p { den = q.den; pieces = q.pieces; cut = q.cut; fill = x }) d3
    ∙ ap (λ x. record p { den = q.den; pieces = q.pieces; cut = q.cut; fill = q.fill; right = x }) d4
    ∙ ap (λ x. record p { den = q.den; pieces = q.pieces; cut = q.cut; fill = q.fill; right = q.right; left = x }) d5
    ∙ ap (λ x. record p { den = q.den; pieces = q.pieces; cut = q.cut; fill = q.fill; right = q.right; left = q.left; roads = x }) d6
    ∙ ap (λ x. record p { den = q.den; pieces = q.pieces; cut = q.cut; fill = q.fill; right = q.right; left = q.left; roads = q.roads; opens = x }) d7

module _ (road : Road) (well : IsWellFormed road) (p q : Plan) (admissible_p : IsAdmissible road p) (admissible_q : IsAdmissible road q)
    (den : p.den ≡ q.den) (point : point_of road p ≡ point_of road q) where
  abbrev f : Column → ℤ
  f = shown road (point_of road q)

  pieces_p : ShowsPieces p f
  pieces_p = subst (λ (x : List ℤ). ShowsPieces p (shown road x)) point (point_shows_pieces road p admissible_p.is_plan well.counted.hops_count)

  pieces_q : ShowsPieces q f
  pieces_q = point_shows_pieces road q admissible_q.is_plan well.counted.hops_count

  amounts_p : ShowsAmounts p f
  amounts_p = subst (λ (x : List ℤ). ShowsAmounts p (shown road x)) point (point_shows_amounts road p admissible_p.is_plan well.counted.hops_count)

  amounts_q : ShowsAmounts q f
  amounts_q = point_shows_amounts road q admissible_q.is_plan well.counted.hops_count

  opening_p : (k : ℕ) → IsNumber k (block_count road) → IsOpening road (opening p k)
  opening_p = (facts_of_admissible road p admissible_p).opening

  opening_q : (k : ℕ) → IsNumber k (block_count road) → IsOpening road (opening q k)
  opening_q = (facts_of_admissible road q admissible_q).opening

  openings_p : ShowsOpenings road p f
  openings_p = subst (λ (x : List ℤ). ShowsOpenings road p (shown road x)) point (point_shows_openings road p admissible_p.is_plan well.counted.hops_count opening_p)

  openings_q : ShowsOpenings road q f
  openings_q = point_shows_openings road q admissible_q.is_plan well.counted.hops_count opening_q

  same_opening : (k : ℕ) → IsNumber k (block_count road) → opening p k ≡ opening q k
  same_opening k n =
      let positive = admissible_p.is_plan.den in
      let high_p = (opening_p k n).at_most in
      let high_q = (opening_q k n).at_most in
      ⊎_elim
      (λ (l : opening p k < opening q k).
      let t : opening p k ≤ road.stages = omega arith in
      absurd (omega (arith, ints, openings_p.each k (opening p k) n t, openings_q.each k (opening p k) n t, opened_from p k (opening p k) (omega arith), opened_before q k (opening p k) l)))
      (λ (l : opening q k ≤ opening p k).
      ⊎_elim
      (λ (m : opening q k < opening p k).
      let t : opening q k ≤ road.stages = omega arith in
      absurd (omega (arith, ints, openings_p.each k (opening q k) n t, openings_q.each k (opening q k) n t, opened_from q k (opening q k) (omega arith), opened_before p k (opening q k) m)))
      (λ (m : opening p k ≤ opening q k). omega arith)
      (cases_lt (opening q k) (opening p k)))
      (cases_lt (opening p k) (opening q k))

  pub same_plan : p ≡ q
  same_plan =
      let a = admissible_p.is_plan in
      let b = admissible_q.is_plan in
      let pieces = same_by_number no_piece p.pieces q.pieces (a.pieces ∙ sym b.pieces)
      (λ g n. same_pieces (piece_of p g) (piece_of q g) (sym (pieces_p.a g) ∙ pieces_q.a g) (sym (pieces_p.b g) ∙ pieces_q.b g) (sym (pieces_p.c g) ∙ pieces_q.c g)) in
      let cut = same_tables road.stages (section_count road) p.cut q.cut a.cut b.cut (λ t i. sym (amounts_p.cut i t) ∙ amounts_q.cut i t) in
      let fill = same_tables road.stages (section_count road) p.fill q.fill a.fill b.fill (λ t i. sym (amounts_p.fill i t) ∙ amounts_q.fill i t) in
      let right = same_tables road.stages (section_count road - 1) p.right q.right a.right b.right (λ t i. sym (amounts_p.right i t) ∙ amounts_q.right i t) in
      let left = same_tables road.stages (section_count road - 1) p.left q.left a.left b.left (λ t i. sym (amounts_p.left i t) ∙ amounts_q.left i t) in
      let roads = same_tables road.stages (access_count road) p.roads q.roads a.roads b.roads (λ t i. sym (amounts_p.access i t) ∙ amounts_q.access i t) in
      let opens = same_by_number 0 p.opens q.opens (a.opens ∙ sym b.opens) (λ k n. same_opening k (number_along k (length p.opens) (block_count road) a.opens n)) in
      same_parts p q den pieces cut fill right left roads opens

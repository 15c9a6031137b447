-- Writing number after number, and stage after stage.
use Rattle.std.proofs.Common.{◌≡◌, ℕ, ℤ, ◌+◌, ◌^◌, ◌<◌, zero, suc, List, [], ◌∷◌, ◌++◌, map, length, get_or, take, pos, codes, subst, refl, sym, ap, ◌∙◌, arith, append_assoc}
use Rattle.std.proofs.lemmas.List.Elements.{All-from_get_or}
use Rattle.std.specs.List.{join_with_byte, flat_map}
use Rattle.std.specs.Fmt.{signed_decimal}
use Rattle.std.proofs.lemmas.List.{append-nil, map-append, take_more, flat_map_more}
use Rattle.plan_rules.specs.declared.plan.Piece.{Piece}
use Rattle.road_types.specs.declared.road.Road.{Road}
use Rattle.plan_rules.specs.declared.plan.Plan.{Plan}
use Rattle.plan_text.specs.declared.rows.Tables.{Tables}
use Rattle.plan_text.specs.LineForms.{spelled_row, spelled_line}
use Rattle.plan_text.specs.PlanText.{piece_text, stage_text, stages_text, tables_of, plan_text, AreBytes}

join_push : (c : ℕ) (w : List ℕ) (ws : List (List ℕ)) (v : List ℕ) → join_with_byte c (w ∷ (ws ++ (v ∷ []))) ≡ join_with_byte c (w ∷ ws) ++ (c ∷ v)
join_push c w [] v = refl
join_push c w (u ∷ ws) v =
    ap (λ t. w ++ (c ∷ t)) (join_push c u ws v) ∙ sym (append_assoc w (c ∷ join_with_byte c (u ∷ ws)) (c ∷ v))

spelled_row-push : (keyword : List ℕ) (numbers : List ℤ) (n : ℤ) → spelled_row keyword (numbers ++ (n ∷ [])) ≡ spelled_row keyword numbers ++ (32 ∷ signed_decimal n)
spelled_row-push keyword numbers n =
    ap (λ ws. join_with_byte 32 (keyword ∷ ws)) (map-append signed_decimal numbers (n ∷ []))
    ∙ join_push 32 keyword (map signed_decimal numbers) (signed_decimal n)

-- one more number on a line
pub row_more : (start keyword : List ℕ) (numbers : List ℤ) (i : ℕ) (n d : ℤ) → i < length numbers → get_or numbers i d ≡ n → ((start ++ spelled_row keyword (take i numbers)) ++ (32 ∷ [])) ++ signed_decimal n ≡ start ++ spelled_row keyword (take (i + 1) numbers)
row_more start keyword numbers i n d lt e =
    append_assoc (start ++ spelled_row keyword (take i numbers)) (32 ∷ []) (signed_decimal n)
    ∙ append_assoc start (spelled_row keyword (take i numbers)) (32 ∷ signed_decimal n)
    ∙ ap (λ t. start ++ t) (sym (ap (spelled_row keyword) (take_more numbers i d lt ∙ ap (λ m. take i numbers ++ (m ∷ [])) e) ∙ spelled_row-push keyword (take i numbers) n))

stages_push : (tables : Tables) (k n : ℕ) → stages_text tables (suc k) (suc n) ≡ stages_text tables (suc k) n ++ stage_text tables (suc (k + n))
stages_push tables k zero = append-nil (stage_text tables (suc k)) ∙ ap (λ m. stage_text tables (suc m)) (omega arith)
stages_push tables k (suc n) =
    ap (λ t. stage_text tables (suc k) ++ t) (stages_push tables (suc k) n ∙ ap (λ m. stages_text tables (suc (suc k)) n ++ stage_text tables (suc m)) (omega arith))
    ∙ sym (append_assoc (stage_text tables (suc k)) (stages_text tables (suc (suc k)) n) (stage_text tables (suc (k + suc n))))

-- one more stage
pub stages_more : (start : List ℕ) (tables : Tables) (n : ℕ) → (start ++ stages_text tables 1 n) ++ stage_text tables (suc n) ≡ start ++ stages_text tables 1 (n + 1)
stages_more start tables n =
    let next : n + 1 ≡ suc n = omega arith in
    let stage : suc (0 + n) ≡ suc n = omega arith in
    let pushed : stages_text tables 1 (n + 1) ≡ stages_text tables 1 n ++ stage_text tables (suc n) =
    ap (stages_text tables 1) next ∙ stages_push tables 0 n ∙ ap (λ m. stages_text tables 1 n ++ stage_text tables m) stage in
    append_assoc start (stages_text tables 1 n) (stage_text tables (suc n)) ∙ ap (λ t. start ++ t) (sym pushed)

-- one more segment
pub pieces_more : (start : List ℕ) (pieces : List Piece) (i : ℕ) (d : Piece) → i < length pieces → (start ++ flat_map piece_text (take i pieces)) ++ piece_text (get_or pieces i d) ≡ start ++ flat_map piece_text (take (i + 1) pieces)
pieces_more start pieces i d lt =
    flat_map_more piece_text start (take i pieces) (get_or pieces i d) ∙ ap (λ ps. start ++ flat_map piece_text ps) (sym (take_more pieces i d lt))

-- five parts, one behind the other
five_parts : (a b c d e none first second third fourth fifth : List ℕ) → none ≡ [] → first ≡ none ++ a → second ≡ first ++ b → third ≡ second ++ c → fourth ≡ third ++ d → fifth ≡ fourth ++ e → fifth ≡ a ++ (b ++ (c ++ (d ++ e)))
five_parts a b c d e none first second third fourth fifth n f s t o i =
    i
    ∙ ap (λ x. x ++ e) (o ∙ ap (λ x. x ++ d) (t ∙ ap (λ x. x ++ c) (s ∙ ap (λ x. x ++ b) (f ∙ ap (λ x. x ++ a) n))))
    ∙ append_assoc ((a ++ b) ++ c) d e
    ∙ append_assoc (a ++ b) c (d ++ e)
    ∙ append_assoc a b (c ++ (d ++ e))

-- what was written part by part is the text of the plan
pub parts_of_text : (road : Road) (plan : Plan) (opens : List ℕ) (none first second third fourth fifth : List ℕ) → opens ≡ plan.opens → none ≡ [] → first ≡ none ++ spelled_line (codes "plan") (plan.den ∷ []) → second ≡ first ++ flat_map piece_text plan.pieces → third ≡ second ++ stages_text (tables_of plan) 1 road.stages → fourth ≡ third ++ spelled_line (codes "open") (map pos opens) → fifth ≡ fourth ++ spelled_line (codes "end") [] → fifth ≡ plan_text road plan
unfolding plan_text
parts_of_text road plan opens none first second third fourth fifth os n f s t o i =
    five_parts (spelled_line (codes "plan") (plan.den ∷ [])) (flat_map piece_text plan.pieces) (stages_text (tables_of plan) 1 road.stages) (spelled_line (codes "open") (map pos plan.opens)) (spelled_line (codes "end") []) none first second third fourth fifth n f s t
    (o ∙ ap (λ os. third ++ spelled_line (codes "open") (map pos os)) os) i

-- numbers that are bytes one by one
pub are_bytes : (opens all : List ℕ) → ((i : ℕ) → get_or opens i 0 < 2 ^ 8) → opens ≡ all → AreBytes all
are_bytes opens all each same = subst AreBytes same (All-from_get_or (λ stage. stage < 2 ^ 8) opens 0 (λ i lt. each i))

-- Reading so many values one by one: what was read so far, before what the lines that are left give.
use Rattle.std.proofs.Common.{◌≡◌, ℕ, ℤ, suc, List, [], ◌∷◌, ◌++◌, map, Result, Ok, Err, refl, sym, ap, ◌∙◌, append_assoc}
use Rattle.std.proofs.lemmas.List.{append-nil}
use Rattle.text_parts.specs.Lines.{Reading}
use Rattle.road_types.specs.declared.road.Road.{Road}
use Rattle.plan_text.specs.declared.rows.Stage.{Stage}
use Rattle.plan_text.specs.declared.rows.Tables.{Tables}
use Rattle.plan_text.specs.inside.LineReading.{Read, then_read, ◌>>=◌, give, repeat_due, Gives}
use Rattle.plan_text.specs.declared.error.TextErr.{TextErr}
use Rattle.plan_text.specs.declared.error.TextErr.TheVariants.{Bad, NoMemory}
use Rattle.plan_text.specs.inside.PlanReading.{stage_due, tables_by_stage, tables_due, last_row_or, last_row}

abbrev pub with_front : {A : Type 0} → List A → Result (List A × Reading) ℕ → Result (List A × Reading) ℕ
with_front front (Err line) = Err line
with_front front (Ok read) = Ok (front ++ read.0, read.1)

with_one : {A : Type 0} (front : List A) (a : A) (o : Result (List A × Reading) ℕ) → with_front front (then_read o (λ others. give (a ∷ others))) ≡ with_front (front ++ (a ∷ [])) o
with_one front a (Err line) = refl
with_one front a (Ok read) = ap (λ xs. Ok (xs, read.1)) (sym (append_assoc front (a ∷ []) read.0))

with_none : {A : Type 0} (o : Result (List A × Reading) ℕ) → o ≡ with_front [] o
with_none (Err line) = refl
with_none (Ok read) = refl

pub repeat_start : {A : Type 0} (read : Read A) (n m : ℕ) (lines : Reading) → n ≡ m → repeat_due n read lines ≡ with_front [] (repeat_due m read lines)
repeat_start read n m lines e = ap (λ k. repeat_due k read lines) e ∙ with_none (repeat_due m read lines)

pub repeat_step : {A : Type 0} (read : Read A) (front : List A) (n m : ℕ) (lines others : Reading) (a : A) → n ≡ suc m → read lines ≡ Ok (a, others) → with_front front (repeat_due n read lines) ≡ with_front (front ++ (a ∷ [])) (repeat_due m read others)
repeat_step {A} read front n m lines others a e h =
    let next : A → Read (List A) = λ first. (repeat_due m read >>= (λ rest. give (first ∷ rest))) in
    ap (λ k. with_front front (repeat_due k read lines)) e
    ∙ ap (λ q. with_front front (then_read q next)) h
    ∙ with_one front a (repeat_due m read others)

pub repeat_stop : {A : Type 0} (read : Read A) (front : List A) (n m : ℕ) (lines : Reading) (line : ℕ) → n ≡ suc m → read lines ≡ Err line → with_front front (repeat_due n read lines) ≡ Err line
repeat_stop {A} read front n m lines line e h =
    let next : A → Read (List A) = λ first. (repeat_due m read >>= (λ rest. give (first ∷ rest))) in
    ap (λ k. with_front front (repeat_due k read lines)) e ∙ ap (λ q. with_front front (then_read q next)) h

pub repeat_end : {A : Type 0} (read : Read A) (front : List A) (n : ℕ) (lines : Reading) → n ≡ 0 → with_front front (repeat_due n read lines) ≡ Ok (front, lines)
repeat_end read front n lines e =
    ap (λ k. with_front front (repeat_due k read lines)) e ∙ ap (λ xs. Ok (xs, lines)) (append-nil front)

-- the rows read so far, before those of further stages
abbrev pub with_stages : (cut fill right left roads : List (List ℤ)) → Result (List Stage × Reading) ℕ → Result (Tables × Reading) ℕ
with_stages cut fill right left roads (Err line) = Err line
with_stages cut fill right left roads (Ok read) =
    Ok (record { cut = cut ++ map (λ (s : Stage). s.cut) read.0; fill = fill ++ map (λ (s : Stage). s.fill) read.0; right = right ++ map (λ (s : Stage). s.right) read.0; left = left ++ map (λ (s : Stage). s.left) read.0; roads = roads ++ map (λ (s : Stage). s.roads) read.0 }, read.1)

with_one_stage : (cut fill right left roads : List (List ℤ)) (s : Stage) (o : Result (List Stage × Reading) ℕ) → with_stages cut fill right left roads (then_read o (λ others. give (s ∷ others))) ≡ with_stages (cut ++ (s.cut ∷ [])) (fill ++ (s.fill ∷ [])) (right ++ (s.right ∷ [])) (left ++ (s.left ∷ [])) (roads ++ (s.roads ∷ [])) o
with_one_stage cut fill right left roads s (Err line) = refl
with_one_stage cut fill right left roads s (Ok read) = simp append_assoc

pub stages_start : (road : Road) (n : ℕ) (lines : Reading) → road.stages ≡ n → tables_due road lines ≡ with_stages [] [] [] [] [] (repeat_due n (stage_due road) lines)
unfolding tables_due
stages_start road n lines e = ap (λ k. then_read (repeat_due k (stage_due road) lines) (λ stages. give (tables_by_stage stages))) e ∙ go (repeat_due n (stage_due road) lines)
  where
    go : (o : Result (List Stage × Reading) ℕ) → then_read o (λ stages. give (tables_by_stage stages)) ≡ with_stages [] [] [] [] [] o
    go (Err line) = refl
    go (Ok read) = refl

pub stages_step : (road : Road) (cut fill right left roads : List (List ℤ)) (n m : ℕ) (lines others : Reading) (s : Stage) → n ≡ suc m → stage_due road lines ≡ Ok (s, others) → with_stages cut fill right left roads (repeat_due n (stage_due road) lines) ≡ with_stages (cut ++ (s.cut ∷ [])) (fill ++ (s.fill ∷ [])) (right ++ (s.right ∷ [])) (left ++ (s.left ∷ [])) (roads ++ (s.roads ∷ [])) (repeat_due m (stage_due road) others)
stages_step road cut fill right left roads n m lines others s e h =
    let next : Stage → Read (List Stage) = λ first. (repeat_due m (stage_due road) >>= (λ rest. give (first ∷ rest))) in
    ap (λ k. with_stages cut fill right left roads (repeat_due k (stage_due road) lines)) e
    ∙ ap (λ q. with_stages cut fill right left roads (then_read q next)) h
    ∙ with_one_stage cut fill right left roads s (repeat_due m (stage_due road) others)

pub stages_stop : (road : Road) (cut fill right left roads : List (List ℤ)) (n m : ℕ) (lines : Reading) (line : ℕ) → n ≡ suc m → stage_due road lines ≡ Err line → with_stages cut fill right left roads (repeat_due n (stage_due road) lines) ≡ Err line
stages_stop road cut fill right left roads n m lines line e h =
    let next : Stage → Read (List Stage) = λ first. (repeat_due m (stage_due road) >>= (λ rest. give (first ∷ rest))) in
    ap (λ k. with_stages cut fill right left roads (repeat_due k (stage_due road) lines)) e ∙ ap (λ q. with_stages cut fill right left roads (then_read q next)) h

-- what an answer of want of memory, or of the line that stopped a stage, says of the tables
pub stages_gives : (road : Road) (cut fill right left roads : List (List ℤ)) (start lines now : Reading) (n m : ℕ) (e : TextErr) → tables_due road start ≡ with_stages cut fill right left roads (repeat_due n (stage_due road) lines) → n ≡ suc m → Gives (stage_due road lines) (Err e) now → Gives {A = Tables} (tables_due road start) (Err e) now
stages_gives road cut fill right left roads start lines now n m (Bad line) i e g = i ∙ stages_stop road cut fill right left roads n m lines line e g
stages_gives road cut fill right left roads start lines now n m NoMemory i e g = tt

last_row_or-is : (first row : List ℤ) (front : List (List ℤ)) → last_row_or first (front ++ (row ∷ [])) ≡ row
last_row_or-is first row [] = refl
last_row_or-is first row (next ∷ front) = last_row_or-is next row front

-- the last row is the one that was put at the end
pub last_row_is : (before after : List (List ℤ)) (row : List ℤ) → after ≡ before ++ (row ∷ []) → last_row after ≡ row
last_row_is before after row e = ap last_row e ∙ last_row_or-is [] row before

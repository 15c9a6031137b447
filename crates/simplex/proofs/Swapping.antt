-- Rows exchanged with spare ones, and columns put at their bounds.
use Rattle.std.proofs.Common.{◌≡◌, ℕ, ◌+◌, ◌≤◌, ◌<◌, ◌⊎◌, inl, inr, List, [], length, get_or, set, Bool, true, false, cond, arith, ap, sym, ◌∙◌, refl, subst, ⊎_elim, get_or-set_same, get_or-set_other}
use Rattle.std.specs.Prelude.{ℤ, pos, ◌≢◌, ◌<ℤ◌, IsTrue, ◌↔◌}
use Rattle.std.specs.List.{swap}
use Rattle.std.proofs.lemmas.Int.{ints}
use Rattle.std.proofs.lemmas.List.Edits.{swap_is, length-swap}
use Rattle.term_store.specs.declared.term.Term.{Term}
use Rattle.tableau.specs.Signs.{IsOppositeSign, IsSameSign}
use Rattle.tableau.specs.Exchanges.{IsToward, IsDivided}
use Rattle.tableau.specs.declared.bound.Bound.{Bound}
use Rattle.tableau.specs.declared.bound.Bound.TheVariants.{Lower, Upper}
use Rattle.sparse_rows.specs.Lines.{entry_of, IsLine}
use Rattle.sparse_rows.proofs.LinesLemmas.{IsRest, rest_all, rest_none, rest_taken, next_from, next_entry, next_some, line_from, none_left}
use Rattle.simplex.specs.inside.Rows.{IsRestood, IsStood, IsPrepared, IsChangedRow, reduced_at}
use Rattle.simplex.proofs.Preparing.{same_or_not}

lt_or_le : (a b : ℕ) → (a < b) ⊎ (b ≤ a)
lt_or_le a b = grind arith

-- ---- exchanged rows

module _ {X : Type 0} where
  pub swap_first : (xs : List (List X)) (i k : ℕ) → i < length xs → k < length xs → i ≢ k → get_or (swap xs i k) i [] ≡ get_or xs k []
  swap_first xs i k l m differ =
      ap (λ ys. get_or ys i []) (sym (swap_is xs i k [] l m))
      ∙ (get_or-set_other (set xs i (get_or xs k [])) k i (get_or xs i []) [] differ ∙ get_or-set_same xs i (get_or xs k []) [] l)

  pub swap_other : (xs : List (List X)) (i k j : ℕ) → i < length xs → k < length xs → j ≢ i → j ≢ k → get_or (swap xs i k) j [] ≡ get_or xs j []
  swap_other xs i k j l m p q =
      ap (λ ys. get_or ys j []) (sym (swap_is xs i k [] l m))
      ∙ (get_or-set_other (set xs i (get_or xs k [])) k j (get_or xs i []) [] q ∙ get_or-set_other xs i j (get_or xs k []) [] p)

  -- the first `done` rows are exchanged with their spare ones where they are marked
  pub record AreSwapped (count done : ℕ) (before now : List (List X)) (marks : List Bool) : Type 0 where
    pub length_same : length now ≡ length before
    pub done_rows : (k : ℕ) → k < done → get_or now k [] ≡ cond (get_or marks k false) (get_or before (count + k) []) (get_or before k [])
    pub left_rows : (k : ℕ) → done ≤ k → k < count → get_or now k [] ≡ get_or before k []
    pub spare_rows : (k : ℕ) → done ≤ k → k < count → get_or now (count + k) [] ≡ get_or before (count + k) []

  pub swapped_none : (count : ℕ) (before : List (List X)) (marks : List Bool) → AreSwapped count 0 before before marks
  swapped_none count before marks = record { length_same = refl; done_rows = λ k l. absurd (omega arith); left_rows = λ k l m. refl; spare_rows = λ k l m. refl }

  pub swapped_more : (count done : ℕ) (before now after : List (List X)) (marks : List Bool) (marked : Bool) → AreSwapped count done before now marks → done < count → length before ≡ count + count
      → get_or marks done false ≡ marked → after ≡ cond marked (swap now done (count + done)) now → AreSwapped count (done + 1) before after marks
  swapped_more count done before now after marks true h l size mark e =
      let length_same = h.length_same in
      let i : done < length now = omega arith in
      let j : count + done < length now = omega arith in
      record {
        length_same = ap length e ∙ (length-swap now done (count + done) ∙ h.length_same);
        done_rows = λ k m. ⊎_elim
            (λ (f : k ≡ done).
            let P : ℕ → Type 0 = λ x. get_or after x [] ≡ cond (get_or marks x false) (get_or before (count + x) []) (get_or before x []) in
            subst P (sym f) (ap (λ ys. get_or ys done []) e ∙ (swap_first now done (count + done) i j (λ x. omega arith) ∙ (h.spare_rows done (omega arith) l
            ∙ ap (λ b. cond b (get_or before (count + done) []) (get_or before done [])) (sym mark)))))
            (λ (f : k ≢ done). ap (λ ys. get_or ys k []) e ∙ (swap_other now done (count + done) k i j f (λ x. omega arith) ∙ h.done_rows k (omega arith)))
            (same_or_not k done);
        left_rows = λ k m n. ap (λ ys. get_or ys k []) e ∙ (swap_other now done (count + done) k i j (λ x. omega arith) (λ x. omega arith) ∙ h.left_rows k (omega arith) n);
        spare_rows = λ k m n. ap (λ ys. get_or ys (count + k) []) e ∙ (swap_other now done (count + done) (count + k) i j (λ x. omega arith) (λ x. omega arith) ∙ h.spare_rows k (omega arith) n);
      }
  swapped_more count done before now after marks false h l size mark e = record {
    length_same = ap length e ∙ h.length_same;
    done_rows = λ k m. ⊎_elim
        (λ (f : k ≡ done).
        let P : ℕ → Type 0 = λ x. get_or after x [] ≡ cond (get_or marks x false) (get_or before (count + x) []) (get_or before x []) in
        subst P (sym f) (ap (λ ys. get_or ys done []) e ∙ (h.left_rows done (omega arith) l ∙ ap (λ b. cond b (get_or before (count + done) []) (get_or before done [])) (sym mark))))
        (λ (f : k ≢ done). ap (λ ys. get_or ys k []) e ∙ h.done_rows k (omega arith))
        (same_or_not k done);
    left_rows = λ k m n. ap (λ ys. get_or ys k []) e ∙ h.left_rows k (omega arith) n;
    spare_rows = λ k m n. ap (λ ys. get_or ys (count + k) []) e ∙ h.spare_rows k (omega arith) n;
  }

-- ---- columns put at their bounds

pub stood_set : (leaving columns : ℕ) (upper : Bool) (before : List Bool) → columns < length before → leaving ≤ columns → IsStood leaving columns upper before (set before leaving upper)
stood_set leaving columns upper before l m = record {
  leaves = λ _. let within : leaving < length before = omega arith in get_or-set_same before leaving upper false within;
  stays = λ j differ. get_or-set_other before leaving j upper false differ;
  slacks = λ j n. get_or-set_other before leaving j upper false (λ e. omega arith);
}

pub stood_none : (leaving columns : ℕ) (upper : Bool) (before : List Bool) → columns < leaving → IsStood leaving columns upper before before
stood_none leaving columns upper before l = record { leaves = λ m. absurd (omega arith); stays = λ j differ. refl; slacks = λ j n. refl }

module _ {A : Type 0} (f : A → ℤ) (row : List (Term A)) (columns : ℕ) (before : List Bool) where
  -- columns before the rest of the row stand by their entries
  pub record IsWalked (end a : ℕ) (now : List Bool) : Type 0 where
    pub from : ℕ
    pub left : IsRest f row a from end
    pub first : from ≤ columns + 1
    pub above : (j : ℕ) → j < from → pos 0 <ℤ entry_of f row j → get_or now j false ≡ false
    pub below : (j : ℕ) → j < from → entry_of f row j <ℤ pos 0 → get_or now j false ≡ true
    pub stays : (j : ℕ) → j < from → entry_of f row j ≡ pos 0 → get_or now j false ≡ get_or before j false
    pub rest : (j : ℕ) → from ≤ j → get_or now j false ≡ get_or before j false

  pub walked_none : (end : ℕ) → IsLine f 0 end row → IsWalked end 0 before
  walked_none end line = record {
    from = 0;
    left = rest_all f row end line;
    first = omega arith;
    above = λ j l. absurd (omega arith);
    below = λ j l. absurd (omega arith);
    stays = λ j l. absurd (omega arith);
    rest = λ j l. refl;
  }

  module _ (end a : ℕ) (now : List Bool) (h : IsWalked end a now) where
    -- the columns up to the last structural one have no more entries
    pub walked_all : ((j : ℕ) → h.from ≤ j → j ≤ columns → entry_of f row j ≡ pos 0) → IsRestood f row columns before now
    walked_all none = record {
      above = λ j l p. ⊎_elim (λ (m : j < h.from). h.above j m p) (λ (m : h.from ≤ j). let e = none j m l in absurd (omega (arith, ints))) (lt_or_le j h.from);
      below = λ j l p. ⊎_elim (λ (m : j < h.from). h.below j m p) (λ (m : h.from ≤ j). let e = none j m l in absurd (omega (arith, ints))) (lt_or_le j h.from);
      stays = λ j l e. ⊎_elim (λ (m : j < h.from). h.stays j m e) (λ (m : h.from ≤ j). h.rest j m) (lt_or_le j h.from);
      slacks = λ j l. let first = h.first in h.rest j (omega arith);
    }

    pub walked_end : length row ≤ a → IsRestood f row columns before now
    walked_end l = walked_all (λ j m n. none_left f row a h.from end j h.left l m)

    module _ (t : Term A) (l : a < length row) (e : t ≡ get_or row a t) where
      pub walked_beyond : columns < t.column → IsRestood f row columns before now
      walked_beyond m = walked_all (λ j n p. rest_none f row a h.from end (columns + 1) h.left (line_from f row a h.from end h.left t l e (columns + 1) (omega arith)) j n (omega arith))

      pub walked_more : t.column ≤ columns → columns < length now → (b : Bool) → (IsTrue b ↔ (f t.value <ℤ pos 0)) → IsWalked end (a + 1) (set now t.column b)
      walked_more m size b is =
          let from = next_from f row a h.from end h.left t l e in
          let here = next_entry f row a h.from end h.left t l e in
          let some = next_some f row a h.from end h.left t l e in
          let within : t.column < length now = omega arith in
          record {
            from = t.column + 1;
            left = rest_taken f row a h.from end h.left t l e;
            first = omega arith;
            above = λ j n p. ⊎_elim
                (λ (q : j ≡ t.column). let P : ℕ → Type 0 = λ x. get_or (set now t.column b) x false ≡ false in
                subst P (sym q) (get_or-set_same now t.column b false within ∙ is_false b (λ z. let w = is.0 z in let k = ap (entry_of f row) q in omega (arith, ints))))
                (λ (q : j ≢ t.column). get_or-set_other now t.column j b false q ∙ ⊎_elim
                (λ (r : j < h.from). h.above j r p)
                (λ (r : h.from ≤ j). let z = none j r (omega arith) in absurd (omega (arith, ints)))
                (lt_or_le j h.from))
                (same_or_not j t.column);
            below = λ j n p. ⊎_elim
                (λ (q : j ≡ t.column). let P : ℕ → Type 0 = λ x. get_or (set now t.column b) x false ≡ true in
                subst P (sym q) (get_or-set_same now t.column b false within ∙ is.1 (let k = ap (entry_of f row) q in omega (arith, ints))))
                (λ (q : j ≢ t.column). get_or-set_other now t.column j b false q ∙ ⊎_elim
                (λ (r : j < h.from). h.below j r p)
                (λ (r : h.from ≤ j). let z = none j r (omega arith) in absurd (omega (arith, ints)))
                (lt_or_le j h.from))
                (same_or_not j t.column);
            stays = λ j n z. ⊎_elim
                (λ (q : j ≡ t.column). let k = ap (entry_of f row) q in absurd (some (omega (arith, ints))))
                (λ (q : j ≢ t.column). get_or-set_other now t.column j b false q ∙ ⊎_elim
                (λ (r : j < h.from). h.stays j r z)
                (λ (r : h.from ≤ j). h.rest j r)
                (lt_or_le j h.from))
                (same_or_not j t.column);
            rest = λ j n. get_or-set_other now t.column j b false (λ q. omega arith) ∙ h.rest j (omega arith);
          }
        where
          none : (j : ℕ) → h.from ≤ j → j < t.column → entry_of f row j ≡ pos 0
          none j r q = rest_none f row a h.from end t.column h.left (line_from f row a h.from end h.left t l e t.column (omega arith)) j r q

          is_false : (x : Bool) → (IsTrue x → ⊥) → x ≡ false
          is_false true no_true = absurd (no_true refl)
          is_false false no_true = refl

-- ---- which bound the signs tell

pub opposite_upper : (b : Bound) (entry basic : ℤ) (r : Bool) → (IsTrue r ↔ IsOppositeSign basic entry) → IsToward b true entry basic → IsTrue r ↔ (b ≡ Upper)
opposite_upper Lower entry basic r is h = (λ t. absurd (apart basic entry h (is.0 t)), λ e. absurd (cc))
  where
    apart : (a c : ℤ) → IsSameSign a c → IsOppositeSign a c → ⊥
    apart a c (inl p) (inl q) = let x = p.1 in let y = q.1 in omega (arith, ints)
    apart a c (inl p) (inr q) = let x = p.0 in let y = q.0 in omega (arith, ints)
    apart a c (inr p) (inl q) = let x = p.0 in let y = q.0 in omega (arith, ints)
    apart a c (inr p) (inr q) = let x = p.1 in let y = q.1 in omega (arith, ints)
opposite_upper Upper entry basic r is h = (λ _. refl, λ _. is.1 h)

pub same_upper : (b : Bound) (entry basic : ℤ) (r : Bool) → (IsTrue r ↔ IsSameSign basic entry) → IsToward b false entry basic → IsTrue r ↔ (b ≡ Upper)
same_upper Lower entry basic r is h = (λ t. absurd (apart basic entry (is.0 t) h), λ e. absurd (cc))
  where
    apart : (a c : ℤ) → IsSameSign a c → IsOppositeSign a c → ⊥
    apart a c (inl p) (inl q) = let x = p.1 in let y = q.1 in omega (arith, ints)
    apart a c (inl p) (inr q) = let x = p.0 in let y = q.0 in omega (arith, ints)
    apart a c (inr p) (inl q) = let x = p.0 in let y = q.0 in omega (arith, ints)
    apart a c (inr p) (inr q) = let x = p.1 in let y = q.1 in omega (arith, ints)
same_upper Upper entry basic r is h = (λ _. refl, λ _. is.1 h)

-- a prepared row that took its spare row's place where it is marked
pub changed_row : {A : Type 0} (f : A → ℤ) (i c end k : ℕ) (pivot other : List (Term A)) (marked : Bool) (spare to : List (Term A)) → IsLine f 0 end other
    → IsPrepared f i c end k pivot other marked spare → to ≡ cond marked spare other → IsChangedRow f i c end k pivot other to
changed_row {A = A} f i c end k pivot other true spare to line p e = record {
  same = λ which. absurd (⊎_elim
      (λ (x : k ≡ i). (p.changes refl).0 x)
      (λ (x : entry_of f other c ≡ pos 0). (p.changes refl).1 x)
      which);
  line = subst (λ (ts : List (Term A)). IsLine f 0 end ts) (sym e) (p.line refl);
  divided = λ _ last l. subst (λ (ts : List (Term A)). IsDivided last (reduced_at f pivot other c) (entry_of f ts)) (sym e) (p.divided refl last l);
}
changed_row {A = A} f i c end k pivot other false spare to line p e = record {
  same = λ _. e;
  line = subst (λ (ts : List (Term A)). IsLine f 0 end ts) (sym e) line;
  divided = λ changes. absurd (⊎_elim
      (λ (x : k ≡ i). changes.0 x)
      (λ (x : entry_of f other c ≡ pos 0). changes.1 x)
      (p.same refl));
}

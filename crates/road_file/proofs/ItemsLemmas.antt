-- Reading the items of an array one after another.
use Rattle.std.proofs.Common.{◌≡◌, ◌≢◌, ℕ, ◌+◌, ◌<◌, ◌≤◌, List, [], ◌∷◌, ◌++◌, length, get_or, take, drop, map, Result, Ok, Err, refl, ap, sym, ◌∙◌, arith, append_assoc}
use Rattle.std.proofs.lemmas.List.{at_drop_all, append-nil, take_more, map-append}
use Rattle.toml.specs.Data.{Data, Items, item}
use Rattle.toml.specs.View.{view, items_view}
use Rattle.toml.specs.declared.value.Value.{Value}
use Rattle.toml.proofs.Views.{items_view-drop}
use Rattle.road_types.specs.declared.fault.Fault.{Fault}
use Rattle.road_types.specs.declared.fault.Fault.TheVariants.{F5}
use Rattle.road_file.specs.declared.error.RoadErr.{RoadErr}
use Rattle.road_file.specs.declared.error.RoadErr.TheVariants.{Refused, NoMemory}
use Rattle.road_file.specs.Step.{◌>>=◌, MayAnswer}
use Rattle.road_file.specs.Kinds.{both_of, two_of, each_of}

pub two_items : (vs : List Value) (a b : Value) → length vs ≡ 2 → a ≡ get_or vs 0 a → b ≡ get_or vs 1 b → two_of (items_view vs) ≡ both_of (view a) (view b)
two_items [] a b n ea eb = absurd (omega arith)
two_items (x ∷ []) a b n ea eb = absurd (omega arith)
two_items (x ∷ y ∷ []) a b n ea eb = rw (ea, eb)
two_items (x ∷ y ∷ z ∷ vs) a b n ea eb = absurd (omega arith)

pub other_items : (vs : List Value) → length vs ≢ 2 → two_of (items_view vs) ≡ Err F5
other_items [] n = refl
other_items (x ∷ []) n = refl
other_items (x ∷ y ∷ []) n = absurd (n refl)
other_items (x ∷ y ∷ z ∷ vs) n = refl

-- values read before those that are still to be read
abbrev pub after : {A : Type 0} → List A → Result (List A) Fault → Result (List A) Fault
after done (Ok xs) = Ok (done ++ xs)
after done (Err fault) = Err fault

after_one : {A : Type 0} (done : List A) (x : A) (rest : Result (List A) Fault) → after done (rest >>= (λ xs. Ok (x ∷ xs))) ≡ after (done ++ x ∷ []) rest
after_one done x (Ok xs) = ap Ok (sym (append_assoc done (x ∷ []) xs))
after_one done x (Err fault) = refl

pub each_of-ok : {A : Type 0} (reads : Data → Result A Fault) (done : List A) (d : Data) (x : A) (rest : Items) → reads d ≡ Ok x
    → after done (each_of reads (item d rest)) ≡ after (done ++ x ∷ []) (each_of reads rest)
unfolding each_of
each_of-ok reads done d x rest e = rw e (after_one done x (each_of reads rest))

pub each_of-err : {A : Type 0} (reads : Data → Result A Fault) (done : List A) (d : Data) (fault : Fault) (rest : Items) → reads d ≡ Err fault
    → after done (each_of reads (item d rest)) ≡ Err fault
unfolding each_of
each_of-err reads done d fault rest e = rw e

-- the loop over the items: at an item that is read
pub each_of-more : {A : Type 0} (reads : Data → Result A Fault) (done : List A) (vs : List Value) (i : ℕ) (v : Value) (x : A) (due : Result (List A) Fault)
    → i < length vs → v ≡ get_or vs i v → after done (each_of reads (items_view (drop i vs))) ≡ due → reads (view v) ≡ Ok x
    → after (done ++ x ∷ []) (each_of reads (items_view (drop (i + 1) vs))) ≡ due
each_of-more reads done vs i v x due within at so_far e =
    let next : reads (view (get_or vs i v)) ≡ Ok x = rw (← at) e in
    sym (each_of-ok reads done (view (get_or vs i v)) x (items_view (drop (i + 1) vs)) next) ∙ ap (λ items. after done (each_of reads items)) (sym (items_view-drop vs i v within)) ∙ so_far

-- and at one that is refused
pub each_of-stop : {A : Type 0} (reads : Data → Result A Fault) (done : List A) (vs : List Value) (i : ℕ) (v : Value) (fault : Fault) (due : Result (List A) Fault)
    → i < length vs → v ≡ get_or vs i v → after done (each_of reads (items_view (drop i vs))) ≡ due → reads (view v) ≡ Err fault
    → due ≡ Err fault
each_of-stop reads done vs i v fault due within at so_far e =
    let next : reads (view (get_or vs i v)) ≡ Err fault = rw (← at) e in
    sym so_far ∙ ap (λ items. after done (each_of reads items)) (items_view-drop vs i v within) ∙ each_of-err reads done (view (get_or vs i v)) fault (items_view (drop (i + 1) vs)) next

pub each_of-answers : {A : Type 0} (reads : Data → Result A Fault) (done : List A) (vs : List Value) (i : ℕ) (v : Value) (e : RoadErr) (due : Result (List A) Fault)
    → i < length vs → v ≡ get_or vs i v → after done (each_of reads (items_view (drop i vs))) ≡ due → MayAnswer {A = A} (Err e) (reads (view v))
    → MayAnswer {A = List A} (Err e) due
each_of-answers reads done vs i v (Refused fault) due within at so_far h = each_of-stop reads done vs i v fault due within at so_far h
each_of-answers reads done vs i v NoMemory due within at so_far h = tt

-- at the end
pub each_of-end : {A : Type 0} (reads : Data → Result A Fault) (done : List A) (vs : List Value) (i : ℕ) (due : Result (List A) Fault)
    → length vs ≤ i → after done (each_of reads (items_view (drop i vs))) ≡ due → due ≡ Ok done
unfolding each_of
each_of-end reads done vs i due past so_far =
    sym so_far ∙ at_drop_all (λ rest. after done (each_of reads (items_view rest))) vs i past ∙ ap Ok (append-nil done)

-- one more entry that is made from the next
pub map_more : {A B : Type 0} (f : A → B) (xs : List A) (done : List B) (i : ℕ) (x : A) (y : B) → i < length xs → x ≡ get_or xs i x → done ≡ map f (take i xs) → y ≡ f x
    → done ++ y ∷ [] ≡ map f (take (i + 1) xs)
map_more f xs done i x y within at so_far made =
    let one : map f (take (i + 1) xs) ≡ map f (take i xs) ++ f (get_or xs i x) ∷ [] = ap (map f) (take_more xs i x within) ∙ map-append f (take i xs) (get_or xs i x ∷ []) in
    rw (so_far, made) (sym (rw (← at) at one))

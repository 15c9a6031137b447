use Rattle.std.proofs.Common.{◌≡◌, ◌+◌, true, false, cond, Some, is_some, sym, ◌∙◌, arith}
use Rattle.std.specs.Str.{bytes_eq}
use Rattle.std.proofs.lemmas.Map.Text.{hash_map_updates_str}
use Rattle.indexmap.specs.IndexMap.{get_by}
use Rattle.road_file.specs.Names.{pit_number}
use Rattle.road_file.proofs.NamesLemmas.{number_stays, number_comes, number_ends, name_is_there, name_is_new}
use Rattle.road_file.proofs.reader.numbering.Goals as goal
use Rattle.road_file.proofs.reader.numbering.Goals.{then-not-contains_key+in-Ok, else-not-contains_key}

pub loop-index-init : goal.loop-index-init
unfolding pit_number
loop-index-init c = λ name. rw c.new-numbers.ensures.empty

pub loop-index-preserved : goal.loop-index-preserved
loop-index-preserved c = λ name.
    let pits = c.args.pits.now in
    let i = c.loop-index.index in
    let pit = c.index-pits-index.result in
    let numbers = c.loop-index.numbers in
    let found = get_by (λ k. bytes_eq name k.now) numbers in
    let has : c.contains_key.result ≡ is_some (get_by (λ k. bytes_eq pit.name k.now) numbers) = rw (← c.as_str-name.ensures) c.contains_key.ensures in
    elim c.if-not-contains_key.branch [
      | then-not-contains_key+in-Ok w ↦
          let new : is_some (get_by (λ k. bytes_eq pit.name k.now) numbers) ≡ false = sym has ∙ w.if-not-contains_key.true in
          let now : get_by (λ k. bytes_eq name k.now) w.insert.new.self ≡ cond (bytes_eq pit.name name) (Some (i + 1)) found = rw c.as_str-name.ensures at (hash_map_updates_str c.as_str-name.result.now numbers w.insert.new.self (Some (i + 1)) w.in-Ok.ensures.updates name) in
          rw (w.numbers-is, now) (sym (number_comes found (i + 1) name pits i pit (omega arith) c.index-pits-index.is (name_is_new numbers pit.name name new)) ∙ c.loop-index.invariant name)
      | else-not-contains_key w ↦
          let there : is_some (get_by (λ k. bytes_eq pit.name k.now) numbers) ≡ true = sym has ∙ w.if-not-contains_key.false in
          rw w.numbers-is (sym (number_stays found (i + 1) name pits i pit (omega arith) c.index-pits-index.is (name_is_there numbers pit.name name there)) ∙ c.loop-index.invariant name)
    ]

pub returns : goal.returns
returns c = λ name.
    number_ends (get_by (λ k. bytes_eq name k.now) c.loop-index.numbers) (c.loop-index.index + 1) name c.args.pits.now c.loop-index.index _ (omega arith) (c.loop-index.invariant name)

-- The end of a command, from the road that was read and what was made on it.
use Rattle.std.specs.Prelude.{ℕ, Option, Some, None, Result, Ok, Err, IfOk, List, take}
use Rattle.std.specs.Option.{option_map}
use Rattle.std.specs.FinMap.{get}
use Rattle.std.proofs.Common.{◌≡◌, sym, refl, subst}
use Rattle.outside.specs.Files.{Files}
use Rattle.road_types.specs.declared.road.Road.{Road}
use Rattle.roadopt_program.specs.declared.ending.Ending.{Ending}
use Rattle.roadopt_program.specs.declared.ending.Made.{Made}
use Rattle.roadopt_program.specs.declared.ending.Product.{Product}
use Rattle.roadopt_program.specs.declared.inputs.Lost.{Lost}
use Rattle.roadopt_program.specs.Due.{road_due, FollowsRoad, Follows}
use Rattle.roadopt_program.specs.Ends.{End, missing_end}
use Rattle.roadopt_program.specs.CommandWords.{Verb, Judge, Check, Replay, Solve, Mass, Carry, RoadCommand, name_written}
use Rattle.roadopt_program.specs.Inputs.{IsGiven, IsGivenWithin, other_limit}
use Rattle.roadopt_program.specs.Solving.{Solves}
use Rattle.roadopt_program.specs.inside.Outcomes.{end_of, made_end, IsRoadRead, IsMadeOnRoad, IsMade}

-- what the read of a file would give
given_by : (told : Option Files) (name : List ℕ) (most : ℕ) → (given : Option (List ℕ)) × IsGiven told name most given
given_by None name most = (None, tt)
given_by (Some files) name most = (option_map (take most) (get files name), refl)

given_within : (told : Option Files) (name : List ℕ) (most : Option ℕ) → (given : Option (List ℕ)) × IsGivenWithin told name most given
given_within told name None = (None, refl)
given_within told name (Some most) = given_by told name most

none_is_no_road : (bytes table : Option (List ℕ)) (road : Road) → road_due bytes table ≡ Ok road → bytes ≡ None → ⊥
unfolding road_due
none_is_no_road None table road p e = cc
none_is_no_road (Some bytes) table road p e = cc

-- ---- on an accepted road

nowhere : (verb : Verb) (road : Road) (name : List ℕ) (most : ℕ) (found : Option Product) (end : End) → Some most ≡ other_limit verb → found ≡ None → end ≡ missing_end → FollowsRoad verb road name None found end
nowhere Judge road name most found end reads none h = (none, h)
nowhere Check road name most found end reads none h = (none, h)
nowhere Replay road name most found end reads none h = (none, h)
nowhere Mass road name most found end reads none h = (none, h)
nowhere (Carry new) road name most found end reads none h = (none, h)
nowhere Solve road name most found end reads none h = cc

by_search : (verb : Verb) (road : Road) (name : List ℕ) (found : Option Product) (end : End) → None ≡ other_limit verb → Solves road name found end → FollowsRoad verb road name None found end
by_search Judge road name found end reads h = cc
by_search Check road name found end reads h = cc
by_search Replay road name found end reads h = cc
by_search Mass road name found end reads h = cc
by_search (Carry new) road name found end reads h = cc
by_search Solve road name found end reads h = h

within : (told : Option Files) (name : List ℕ) (most : ℕ) (limit : Option ℕ) (given : Option (List ℕ)) → Some most ≡ limit → IsGiven told name most given → IsGivenWithin told name limit given
within told name most limit given e g = subst (λ (l : Option ℕ). IsGivenWithin told name l given) e g

-- the further file was read
pub made_of_bytes : (told : Option Files) (command : RoadCommand) (road : Road) (most : ℕ) (bytes : List ℕ) (made : Made)
    → Some most ≡ other_limit command.verb → IsGiven told command.other most (Some bytes)
    → ((name : List ℕ) → FollowsRoad command.verb road name (Some bytes) made.found (made_end name made)) → IsMadeOnRoad told command road made
made_of_bytes told command road most bytes made limit g h = record {
  bytes = Some bytes;
  is_given = within told command.other most (other_limit command.verb) (Some bytes) limit g;
  follows = h (name_written command);
}

-- it isn't there
pub made_of_none : (told : Option Files) (command : RoadCommand) (road : Road) (most : ℕ) (made : Made)
    → Some most ≡ other_limit command.verb → IsGiven told command.other most None
    → made.found ≡ None → made_end (name_written command) made ≡ missing_end → IsMadeOnRoad told command road made
made_of_none told command road most made limit g none is = record {
  bytes = None;
  is_given = within told command.other most (other_limit command.verb) None limit g;
  follows = nowhere command.verb road (name_written command) most made.found (made_end (name_written command) made) limit none is;
}

-- the road was searched
pub made_by_search : (told : Option Files) (command : RoadCommand) (road : Road) (made : Made)
    → None ≡ other_limit command.verb → ((name : List ℕ) → Solves road name made.found (made_end name made)) → IsMadeOnRoad told command road made
made_by_search told command road made limit h = record {
  bytes = None;
  is_given = subst (λ (l : Option ℕ). IsGivenWithin told command.other l None) limit refl;
  follows = by_search command.verb road (name_written command) made.found (made_end (name_written command) made) limit (h (name_written command));
}

-- ---- after the road

made_on_road : (told : Option Files) (command : RoadCommand) (before mid now : ℕ) (road : Road) (made : Made)
    → IsRoadRead told command.road before mid (Ok road) → IsMadeOnRoad told command road made → IsMade told command before now made
made_on_road told command before mid now road made r m = record {
  due = record {
    given = record { road = r.bytes; table = r.table; other = m.bytes };
    are_given = record { road = r.is_given; table = r.table_given; other = m.is_given };
    follows = subst (λ (x : Result Road End). Follows command.verb x (name_written command) m.bytes made.found (made_end (name_written command) made)) (sym r.makes) m.follows;
  };
  no_fault = λ e. absurd (none_is_no_road r.bytes r.table road r.makes e);
}

pub all_made_on_road : (told mid : Option Files) (command : RoadCommand) (before between now : ℕ) (road : Road) (result : Result Made Lost)
    → mid ≡ told → IsRoadRead told command.road before between (Ok road)
    → IfOk result (λ made. IsMadeOnRoad mid command road made) → IfOk result (λ made. IsMade told command before now made)
all_made_on_road told mid command before between now road (Ok made) same r m =
    made_on_road told command before between now road made r (subst (λ (t : Option Files). IsMadeOnRoad t command road made) same m)
all_made_on_road told mid command before between now road (Err lost) same r m = tt

pub made_early : (told : Option Files) (command : RoadCommand) (before now : ℕ) (ending : Ending) (made : Made)
    → IsRoadRead told command.road before now (Err ending) → made.found ≡ None → ((name : List ℕ) → made_end name made ≡ end_of ending) → IsMade told command before now made
made_early told command before now ending made r none is =
    let other = given_within told command.other (other_limit command.verb) in
    record {
      due = record {
        given = record { road = r.bytes; table = r.table; other = other.0 };
        are_given = record { road = r.is_given; table = r.table_given; other = other.1 };
        follows = subst (λ (x : Result Road End). Follows command.verb x (name_written command) other.0 made.found (made_end (name_written command) made)) (sym r.makes) (none, is (name_written command));
      };
      no_fault = r.no_fault;
    }

-- What one pass over the bytes finds is what they spell.
use Rattle.std.proofs.Common.{◌≡◌, ℕ, Option, ◌+◌, Ok, Err, List, [], codes, refl, sym, ap, subst, ◌∙◌, arith}
use Rattle.std.specs.Prelude.{⊤}
use Rattle.numbers.specs.Fractions.{Fraction}
use Rattle.text_parts.specs.Lines.{Reading}
use Rattle.road_types.specs.declared.road.Road.{Road}
use Rattle.road_types.specs.RoadPrograms.{row_count}
use Rattle.plan_text.specs.declared.error.TextErr.{TextErr}
use Rattle.plan_text.specs.declared.error.TextErr.TheVariants.{Bad, NoMemory}
use Rattle.plan_text.specs.inside.LineReading.{then_read, ◌>>=◌, give, Gives}
use Rattle.plan_text.specs.inside.PlanReading.{start_of}
use Rattle.milp_builder.specs.Boxes.{root_box}
use Rattle.cert_tree.specs.Trees.{BoxTree}
use Rattle.cert_text.specs.declared.heading.Heading.{Heading}
use Rattle.cert_text.specs.CertText.{Certificate, IsStatedOrNone}
use Rattle.cert_text.specs.NodeText.{most_levels}
use Rattle.cert_text.specs.inside.NodeReading.{line_due, tree_due}
use Rattle.cert_text.specs.StatedForms.{keyword_form}
use Rattle.cert_text.specs.inside.CertReading.{heading_due, tree_end_due, cert_due, value_with_nothing_left, whole_value, cert_of_text}
use Rattle.cert_text.proofs.CertLaws.{heading_spells}
use Rattle.cert_text.proofs.MisfitLaws.{refused_line-told}
use Rattle.cert_checker.specs.declared.walk.Walked.{Walked}
use Rattle.cert_checker.specs.Refusals.{IsTreeRefusal}
use Rattle.cert_checker.specs.inside.Walking.{IsWalked, Walks}
use Rattle.cert_checker.specs.declared.checking.Tried.{Tried}
use Rattle.cert_checker.specs.declared.checking.Tried.TheVariants.{Everything, Lasting}
use Rattle.cert_checker.specs.inside.Findings.{bound_tried, AreFound, FindsOrLine, EndsText}

-- the certificate of a heading and a tree
abbrev cert_with : Heading → BoxTree → Certificate
cert_with heading tree = record { planned = heading.planned; bound = heading.bound; tree = tree }

-- the reading by its parts
by_heading : (road : Road) (start between : Reading) (heading : Heading) → heading_due road start ≡ Ok (heading, between) → cert_due road start ≡ then_read (tree_end_due road between) (λ tree. give (cert_with heading tree))
unfolding cert_due
by_heading road start between heading e =
    ap (λ o. then_read o (λ heading. (tree_end_due road >>= (λ tree. give (cert_with heading tree))))) e

by_tree : (road : Road) (between after : Reading) (tree : BoxTree) → tree_due (row_count road) most_levels between ≡ Ok (tree, after) → tree_end_due road between ≡ then_read (line_due (keyword_form (codes "end")) after) (λ last. give tree)
unfolding tree_end_due
by_tree road between after tree e = ap (λ o. then_read o (λ tree. (line_due (keyword_form (codes "end")) >>= (λ last. give tree)))) e

pub heading_failed : (road : Road) (bytes : List ℕ) (tried : Tried) (before after : Reading) (error : TextErr) → before ≡ start_of bytes → Gives (heading_due road before) (Err error) after → FindsOrLine road bytes tried (Err error)
unfolding cert_of_text cert_due
heading_failed road bytes tried before after (Bad line) s e =
    refused_line-told road bytes line (ap (λ o. whole_value (then_read o (λ heading. (tree_end_due road >>= (λ tree. give (cert_with heading tree)))))) (ap (heading_due road) (sym s) ∙ e))
heading_failed road bytes tried before after NoMemory s e = tt

stated : (road : Road) (before after : Reading) (heading : Heading) → heading_due road before ≡ Ok (heading, after) → IsStatedOrNone heading.bound
stated road before after heading e = ((heading_spells road).sound before after heading e).1.1

tried_stated : (road : Road) (tried : Tried) (before after : Reading) (heading : Heading) → heading_due road before ≡ Ok (heading, after) → IsStatedOrNone (bound_tried tried heading.bound)
tried_stated road Everything before after heading e = stated road before after heading e
tried_stated road Lasting before after heading e = tt

pub bound_stated : (road : Road) (tried : Tried) (bound : Option Fraction) (before after : Reading) (heading : Heading) → bound ≡ bound_tried tried heading.bound → heading_due road before ≡ Ok (heading, after) → IsStatedOrNone bound
bound_stated road tried bound before after heading b e = subst IsStatedOrNone (sym b) (tried_stated road tried before after heading e)

pub walk_failed : (road : Road) (bytes : List ℕ) (tried : Tried) (bound : Option Fraction) (before between after : Reading) (heading : Heading) (error : TextErr) → before ≡ start_of bytes → heading_due road before ≡ Ok (heading, between) → Walks road bound between (Err error) after → FindsOrLine road bytes tried (Err error)
unfolding cert_of_text tree_end_due
walk_failed road bytes tried bound before between after heading (Bad line) s h e =
    refused_line-told road bytes line (ap whole_value (by_heading road (start_of bytes) between heading (ap (heading_due road) (sym s) ∙ h)
    ∙ ap (λ o. then_read (then_read o (λ tree. (line_due (keyword_form (codes "end")) >>= (λ last. give tree)))) (λ tree. give (cert_with heading tree))) e))
walk_failed road bytes tried bound before between after heading NoMemory s h e = tt

pub end_failed : (road : Road) (bytes : List ℕ) (tried : Tried) (bound : Option Fraction) (before between after last : Reading) (heading : Heading) (walked : Walked) (error : TextErr) → before ≡ start_of bytes → heading_due road before ≡ Ok (heading, between) → IsWalked road bound between walked after → Gives (line_due (keyword_form (codes "end")) after) (Err error) last → FindsOrLine road bytes tried (Err error)
unfolding cert_of_text
end_failed road bytes tried bound before between after last heading walked (Bad line) s h w e =
    refused_line-told road bytes line (ap whole_value (by_heading road (start_of bytes) between heading (ap (heading_due road) (sym s) ∙ h)
    ∙ ap (λ o. then_read o (λ tree. give (cert_with heading tree))) (by_tree road between after w.tree w.read)
    ∙ ap (λ o. then_read (then_read o (λ last. give w.tree)) (λ tree. give (cert_with heading tree))) e))
end_failed road bytes tried bound before between after last heading walked NoMemory s h w e = tt

to_end : (road : Road) (bytes : List ℕ) (before between after last : Reading) (heading : Heading) (tree : BoxTree) (nothing : ⊤) → before ≡ start_of bytes → heading_due road before ≡ Ok (heading, between) → tree_due (row_count road) most_levels between ≡ Ok (tree, after) → line_due (keyword_form (codes "end")) after ≡ Ok (nothing, last) → cert_of_text road bytes ≡ value_with_nothing_left (cert_with heading tree) last.number last.left
unfolding cert_of_text
to_end road bytes before between after last heading tree nothing s h w e =
    ap whole_value (by_heading road (start_of bytes) between heading (ap (heading_due road) (sym s) ∙ h)
    ∙ ap (λ o. then_read o (λ tree. give (cert_with heading tree))) (by_tree road between after tree w)
    ∙ ap (λ o. then_read (then_read o (λ last. give tree)) (λ tree. give (cert_with heading tree))) e)

pub more_left : (road : Road) (bytes : List ℕ) (tried : Tried) (bound : Option Fraction) (before between after last : Reading) (heading : Heading) (walked : Walked) (nothing : ⊤) (error : TextErr) → before ≡ start_of bytes → heading_due road before ≡ Ok (heading, between) → IsWalked road bound between walked after → line_due (keyword_form (codes "end")) after ≡ Ok (nothing, last) → EndsText last (Err error) → FindsOrLine road bytes tried (Err error)
more_left road bytes tried bound before between after last heading walked nothing (Bad line) s h w e left =
    refused_line-told road bytes line (to_end road bytes before between after last heading w.tree nothing s h w.read e
    ∙ ap (value_with_nothing_left (cert_with heading w.tree) last.number) left.2
    ∙ ap (λ n. Err n) (sym left.3))
more_left road bytes tried bound before between after last heading walked nothing NoMemory s h w e left = tt

pub all_found : (road : Road) (bytes : List ℕ) (tried : Tried) (bound : Option Fraction) (before between after last : Reading) (heading : Heading) (walked : Walked) (nothing : ⊤) (line : ℕ) → before ≡ start_of bytes → heading_due road before ≡ Ok (heading, between) → line ≡ between.number → bound ≡ bound_tried tried heading.bound → IsWalked road bound between walked after → line_due (keyword_form (codes "end")) after ≡ Ok (nothing, last) → last.left ≡ [] → AreFound road bytes tried (record { heading = heading; bound_line = line; walked = walked })
all_found road bytes tried bound before between after last heading walked nothing line s h l b w e none =
    let took = ((heading_spells road).sound before between heading h).0 in
    record {
      cert = cert_with heading w.tree;
      read = to_end road bytes before between after last heading w.tree nothing s h w.read e ∙ ap (value_with_nothing_left (cert_with heading w.tree) last.number) none;
      planned_is = refl;
      bound_is = refl;
      bound_line = record {
        lines = took.lines;
        others = between.left;
        lines_are = ap (λ (r : Reading). r.left) (sym s) ∙ took.left_is;
        text_is = took.text_is;
        count = let start = ap (λ (r : Reading). r.number) s in omega (arith, l, took.number_is, start);
      };
      tree = subst (λ o. IsTreeRefusal road o w.tree (root_box road) (line + 1) walked.found) b (rw l w.finds);
      low_is = w.low_is;
    }

-- The lines of a run of a machine of quadruples as they are given.
use Rattle.std.specs.Prelude.{◌≡◌, ℕ, suc, ◌+◌, ◌≤◌, List, [], ◌∷◌, ◌++◌, Bool, true, false, Option, Some, None, refl}
use Rattle.std.specs.Option.{is_some}
use Rattle.std.proofs.Common.{arith, inl, inr, not, sym, subst, ap, ◌∙◌, append_assoc, add-one}
use Rattle.bn_io.specs.Told.{Grows, GrowsByFront}
use Rattle.bn_io.proofs.GivingLemmas.{grows_none}
use Rattle.bn_io.proofs.ToldLemmas.{Grows-joins}
use Rattle.bn_lists.specs.Runs.{Reaches}
use Rattle.bn_machine.specs.Tape.{Tape}
use Rattle.bn_machine.specs.Window.{Windowed}
use Rattle.bn_quad.specs.Quadruples.{Configuration, QuadruplesRunTo, everywhere}
use Rattle.bn_reply_traces.specs.MomentsReply.{ComesOut, Halted, Outcome, Running, Stuck}
use Rattle.bn_reply_traces.specs.ConfigurationText.{IsConfigurationText, IsNextQuadruple}
use Rattle.bn_reply_traces.specs.MomentText.{AreLines, rule_text}
use Rattle.bn_reply_traces.specs.QuadStages.{AreQuadTold, AreQuadToldInPart, IsLineIn, IsQuadEndedAt, IsQuadRun}
use Rattle.bn_reply_traces.specs.QuadStages.{IsSomeStage, IsStageIn, IsSteppedTo, IsTapeStage, first_of, table_in}
use Rattle.bn_reply_traces.specs.declared.extent.Extent.{Extent}
use Rattle.bn_reply_traces.specs.declared.quad_run.QuadRun.{QuadRun}
use Rattle.bn_reply_traces.specs.declared.quad_stage.QuadStage.{QuadStage}
use Rattle.bn_reply.specs.Lines.{line}
use Rattle.bn_reply_traces.proofs.ConfigurationLemmas.{AreShown, line_some}
use Rattle.bn_reply_traces.proofs.TraceLemmas.{Shown}

-- ---- the end

pub ended_stage : (r : QuadRun) (c : Configuration ℕ) (s : QuadStage) (steps : ℕ) (rule : Option ℕ) (some : Bool) →
    some ≡ is_some rule → some ≡ false → IsQuadEndedAt r c s steps rule → IsStageIn r steps c s
ended_stage r c s steps None some is none h = h.1
ended_stage r c s steps (Some m) some is none h = absurd (cc (is, none))

-- ---- a line

tape_shown : (z : ℕ) (word : List ℕ) (n i : ℕ) (w : Windowed) (e : Extent) (t : Tape) → IsTapeStage z word n i w e t
    → Shown t
tape_shown z word n i w e t h = record { first = e.first; last = e.last; begins = h.first; ends = h.last }

module _ (r : QuadRun) (run : IsQuadRun r) (i : ℕ) (s : QuadStage) (c : Configuration ℕ) (at : IsStageIn r i c s) where
  shown : AreShown c
  shown = record {
    one = tape_shown _ _ _ _ _ _ _ at.one;
    two = tape_shown _ _ _ _ _ _ _ at.two;
    three = tape_shown _ _ _ _ _ _ _ at.three;
  }

  -- the moment has a line
  pub line_in : (text : List ℕ) × IsLineIn r i text
  line_in = line_some (table_in r) (first_of r.machine.now r.words) i c run.deterministic shown at.run

  -- what was said of the stage, and the quadruple by which it goes on, are it
  pub line_by : (u : QuadStage) (rule : Option ℕ) (text : List ℕ) → IsConfigurationText (table_in r) i c text →
      IsSteppedTo (table_in r) r.words r.most_steps i c s rule u → IsLineIn r i (line (text ∷ rule_text rule ∷ []))
  line_by u rule text said stepped = (
    c,
    at.run,
    record {
      shown = text;
      shown_is = said;
      rule = rule;
      next = next rule stepped;
      is = refl;
    },
  )
    where
      next : (rule : Option ℕ) → IsSteppedTo (table_in r) r.words r.most_steps i c s rule u
          → IsNextQuadruple r.machine.now c rule
      next None h = h.0
      next (Some m) h = (h.0, h.1)

-- nothing was given
pub front_none : (taken : Option (List ℕ)) (text : List ℕ) → GrowsByFront taken taken text
front_none taken text = ([], text, refl, grows_none taken)

-- ---- lines that are told

pub quad_told_none : (r : QuadRun) (a : Option (List ℕ)) (kept : List ℕ) → kept ≡ [] → AreQuadTold r a a kept 0
quad_told_none r a kept is = record { given = []; grown = grows_none a; lines = is }

pub quad_told_more : (r : QuadRun) (old now new : Option (List ℕ)) (kept rest : List ℕ) (i : ℕ)
    → AreQuadTold r old now kept i →
    ((text piece : List ℕ) × IsLineIn r i text × (kept ++ text ≡ piece ++ rest) × Grows now new piece) →
    AreQuadTold r old new rest (i + 1)
quad_told_more r old now new kept rest i told h = record {
  given = told.given ++ h.1;
  grown = Grows-joins old now new told.given h.1 told.grown h.4;
  lines = subst (λ k. AreLines (IsLineIn r) k ((told.given ++ h.1) ++ rest)) (sym (add-one i)) (
    told.given ++ kept,
    h.0,
    told.lines,
    h.2,
    append_assoc told.given h.1 rest ∙ ap (λ (z : List ℕ). told.given ++ z) (sym h.3)
        ∙ sym (append_assoc told.given kept h.0),
  );
}

pub quad_told_part : (r : QuadRun) (old now new : Option (List ℕ)) (kept : List ℕ) (i : ℕ) → i ≤ r.most_steps →
    AreQuadTold r old now kept i → ((text : List ℕ) × IsLineIn r i text × GrowsByFront now new (kept ++ text)) →
    AreQuadToldInPart r old new
quad_told_part r old now new kept i early told h = record {
  number = suc i;
  few = omega (arith, early);
  text = (told.given ++ kept) ++ h.0;
  lines = (told.given ++ kept, h.0, told.lines, h.1, refl);
  grown =
      let g = h.2 in (
        told.given ++ g.0,
        g.1,
        append_assoc told.given kept h.0 ∙ ap (λ (z : List ℕ). told.given ++ z) g.2
            ∙ sym (append_assoc told.given g.0 g.1),
        Grows-joins old now new told.given g.0 told.grown g.3,
      );
}

-- ---- the loop

pub some_next : (r : QuadRun) (i : ℕ) (s u : QuadStage) (rule : Option ℕ) (is_none : Bool) → is_some rule ≡ not is_none
    →
    is_none ≡ false → IsSomeStage r i s →
    ((c : Configuration ℕ) → IsStageIn r i c s → IsSteppedTo (table_in r) r.words r.most_steps i c s rule u) →
    IsSomeStage r (i + 1) u
some_next r i s u None true is lettered at steps = absurd (cc)
some_next r i s u None false is lettered at steps = absurd (cc)
some_next r i s u (Some m) is_none is lettered at steps = let h = steps at.0 at.1 in (h.0, h.2)

-- it ends where no quadruple applies
pub ends_early : (r : QuadRun) (i : ℕ) (s u : QuadStage) (rule : Option ℕ) → i ≤ r.most_steps → rule ≡ None
    → IsSomeStage r i s →
    ((c : Configuration ℕ) → IsStageIn r i c s → IsSteppedTo (table_in r) r.words r.most_steps i c s rule u) →
    (c : Configuration ℕ) × IsQuadEndedAt r c u i rule
ends_early r i s u None early none at steps =
    let h = steps at.0 at.1 in
    (at.0, (early, subst (IsStageIn r i at.0) (sym h.1) at.1, h.0))
ends_early r i s u (Some m) early none at steps = absurd (cc none)

-- or behind the last step
pub ends_last : (r : QuadRun) (i : ℕ) (s u : QuadStage) (rule : Option ℕ) → i ≡ r.most_steps → IsSomeStage r i s →
    ((c : Configuration ℕ) → IsStageIn r i c s → IsSteppedTo (table_in r) r.words r.most_steps i c s rule u) →
    (c : Configuration ℕ) × IsQuadEndedAt r c u i rule
ends_last r i s u None all at steps = ends_early r i s u None (omega (arith, all)) refl at steps
ends_last r i s u (Some m) all at steps =
    let h = steps at.0 at.1 in
    (at.0, (all, at.1.run, (h.0, h.1)))

-- ---- the last line

-- how the run comes out that ends so
pub ended_outcome : (r : QuadRun) (c : Configuration ℕ) (s : QuadStage) (steps : ℕ) (rule : Option ℕ) →
    IsQuadEndedAt r c s steps rule →
    (o : Outcome) × ComesOut r.machine.now r.most_steps steps c o × (steps ≤ r.most_steps)
    × Reaches (QuadruplesRunTo everywhere r.machine.now) steps (first_of r.machine.now r.words) c
ended_outcome r c s steps None h = by h.2
  where
    by : IsNextQuadruple r.machine.now c None → (o : Outcome) × ComesOut r.machine.now r.most_steps steps c o
        × (steps ≤ r.most_steps) × Reaches (QuadruplesRunTo everywhere r.machine.now) steps
        (first_of r.machine.now r.words) c
    by (inl final) = (Halted, final, h.0, h.1.run)
    by (inr stuck) = (Stuck, stuck, h.0, h.1.run)
ended_outcome r c s steps (Some m) h = (Running, (h.0, (h.2.0, (m, h.2.1))), omega (arith, h.0), h.1)

-- What a configuration of the reversible machine says of the machine's own run.
use Rattle.std.specs.Prelude.{◌≡◌, ℕ, pos, List, length, refl}
use Rattle.std.proofs.Common.{suc, arith, sym, subst, ◌∙◌}
use Rattle.std.proofs.lemmas.Int.{ints}
use Rattle.bn_machine.specs.Machine.{Program, final_of, start}
use Rattle.bn_machine.proofs.MachineStepLemmas.{follows_run}
use Rattle.bn_machine.specs.Tape.{shift}
use Rattle.bn_machine.specs.Window.{anywhere}
use Rattle.bn_machine.specs.declared.quint.Shift.TheVariants.{Right}
use Rattle.bn_quad.specs.Quadruples.{Configuration}
use Rattle.bn_bennett_laws.specs.Stages.{Stands, history, computes, computes_within, goes_right, copies_letter}
use Rattle.bn_bennett_laws.specs.Stages.{goes_left, passes_letter, retraces, retraces_within}
use Rattle.bn_bennett_laws.specs.declared.name.Name.{Name}
use Rattle.bn_bennett.specs.Meaning.{machine_state_by}
use Rattle.bn_view.specs.Viewed.{MachineIsAt}

-- the head of the history stands at the step that the state tells of
pub record IsCounted (p : Program) (word : List ℕ) (final : ℕ) (x : Configuration Name) : Type 0 where
  pub step : ℕ
  pub head : x.two.head ≡ pos step
  pub at : MachineIsAt p word step (machine_state_by final x.state)

history_head : (ns : List ℕ) → (history ns).head ≡ pos (length ns)
history_head ns = omega (arith, ints)

next_head : (ns : List ℕ) → (shift (history ns) Right).head ≡ pos (suc (length ns))
next_head ns = omega (arith, ints)

pub counted : (p : Program) (word : List ℕ) (final : ℕ) → final ≡ final_of p.quints → (x : Configuration Name)
    → Stands p word x → IsCounted p word final x
counted p word final is x (computes c ns run same) =
    subst (IsCounted p word final) (sym same) (record {
      step = length ns;
      head = history_head ns;
      at = (c, follows_run anywhere p ns (start p word) c run, refl);
    })
counted p word final is x (computes_within c d ns m by run same) =
    subst (IsCounted p word final) (sym same) (record {
      step = suc (length ns);
      head = next_head ns;
      at = (c, d, length ns, refl, follows_run anywhere p ns (start p word) c run, by);
    })
counted p word final is x (goes_right c ns y k halts few same) =
    subst (IsCounted p word final) (sym same) (record {
      step = length ns;
      head = history_head ns;
      at = (c, follows_run anywhere p ns (start p word) c halts.run, halts.final ∙ sym is);
    })
counted p word final is x (copies_letter c ns y k halts few same) =
    subst (IsCounted p word final) (sym same) (record {
      step = length ns;
      head = history_head ns;
      at = (c, follows_run anywhere p ns (start p word) c halts.run, halts.final ∙ sym is);
    })
counted p word final is x (goes_left c ns y k halts few same) =
    subst (IsCounted p word final) (sym same) (record {
      step = length ns;
      head = history_head ns;
      at = (c, follows_run anywhere p ns (start p word) c halts.run, halts.final ∙ sym is);
    })
counted p word final is x (passes_letter c ns y k halts few same) =
    subst (IsCounted p word final) (sym same) (record {
      step = length ns;
      head = history_head ns;
      at = (c, follows_run anywhere p ns (start p word) c halts.run, halts.final ∙ sym is);
    })
counted p word final is x (retraces h c hs ns y halts run same) =
    subst (IsCounted p word final) (sym same) (record {
      step = length ns;
      head = history_head ns;
      at = (c, follows_run anywhere p ns (start p word) c run, refl);
    })
counted p word final is x (retraces_within h c d hs ns y m by halts run same) =
    subst (IsCounted p word final) (sym same) (record {
      step = suc (length ns);
      head = next_head ns;
      at = (c, d, length ns, refl, follows_run anywhere p ns (start p word) c run, by);
    })

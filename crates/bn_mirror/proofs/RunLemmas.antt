-- Runs of a mirror: the run back of the first, and the way back to where a run began.
use Rattle.std.specs.Prelude.{◌≡◌, ℕ, ◌+◌, ◌-◌, ◌≤◌, replicate}
use Rattle.std.proofs.Common.{arith, sym, ap, subst, ◌∙◌}
use Rattle.bn_lists.specs.Runs.{Reaches}
use Rattle.bn_element.specs.Rotary.{rotary}
use Rattle.bn_circuits.specs.Circuits.{Circuit, clock, IsCircuit, Goes}
use Rattle.bn_circuits.specs.Situations.{situation_of}
use Rattle.bn_circuits.specs.Stepping.{run, back}
use Rattle.bn_circuits.proofs.RunLemmas.{Reaches-run, Reaches-back, Reaches-IsConfig}
use Rattle.bn_circuits.proofs.RunPartLemmas.{runs_split, steps_of_run}
use Rattle.bn_circuits.specs.declared.line.Line.{Line}
use Rattle.bn_circuits.specs.declared.place.Place.TheVariants.{Enter, Left}
use Rattle.bn_circuits.specs.declared.config.Config.{Config}
use Rattle.bn_netlist_laws.specs.Spelling.{Spelling, Admits, circuit_of, moved_to}
use Rattle.bn_netlist_laws.proofs.VersionLemmas.{spellings-move}
use Rattle.bn_netlist_laws.specs.declared.version.Version.{Version}
use Rattle.bn_mirror.specs.Mirror.{fed_place, mirrored_place, IsMirror}
use Rattle.bn_mirror.specs.Laws.{MirrorsExchangeEnds, MirrorsRunBack, RunsComeBack}
use Rattle.bn_mirror.proofs.AdmittedLemmas.{config_of}
use Rattle.bn_mirror.proofs.RotaryLemmas.{all_rotary}
use Rattle.bn_mirror.proofs.StepLemmas.{mirrored_config, turned_Reaches}

in_time : (k : Circuit) (t : ℕ) (c d : Config) → Reaches (Goes k) t c d → d.steps ≤ clock → t ≤ clock
in_time k t c d made limit = let e : d.steps ≡ c.steps + t = steps_of_run k t c d made in omega arith

-- the steps back that can be made are made forward in the mirror
mirror_reaches : (v : Version) (s m : Spelling) → Admits v s → IsMirror s m → (t : ℕ) (c : Config)
    → Reaches (Goes (circuit_of s)) t c s.config
    → Reaches (Goes (circuit_of m)) t m.config (mirrored_config s.wires t c)
mirror_reaches v s m admitted is t c made =
    let tables : (circuit_of m).tables ≡ (circuit_of s).tables = ap (λ n. replicate n rotary) is.elements in
    let from_start : Reaches (Goes (circuit_of m)) t (mirrored_config s.wires 0 s.config)
    (mirrored_config s.wires t c) =
    turned_Reaches (circuit_of s) (circuit_of m) tables (all_rotary s.elements) is.wires admitted.circuit.one_to_one t c
    s.config made (in_time (circuit_of s) t c s.config made admitted.config.in_time) in
    subst (λ x. Reaches (Goes (circuit_of m)) t x (mirrored_config s.wires t c)) (sym (config_of s m is)) from_start

-- so the run of the mirror, and the mirror of where the steps back lead
module _ (v : Version) (s m n : Spelling) (admitted : Admits v s) (is : IsMirror s m) (t : ℕ) (c : Config)
    (made : Reaches (Goes (circuit_of s)) t c s.config) (other : IsMirror (moved_to s c) n) where
  ran : run (circuit_of m) m.config t ≡ mirrored_config s.wires t c
  ran = Reaches-run (circuit_of m) t m.config (mirrored_config s.wires t c) (mirror_reaches v s m admitted is t c made)

  pub mirror_runs : Reaches (Goes (circuit_of m)) t m.config (run (circuit_of m) m.config t)
  mirror_runs = subst (Reaches (Goes (circuit_of m)) t m.config) (sym ran) (mirror_reaches v s m admitted is t c made)

  pub mirror_situation : situation_of (run (circuit_of m) m.config t) ≡ situation_of n.config
  mirror_situation = ap situation_of ran ∙ sym (ap situation_of (config_of (moved_to s c) n other))

-- the last t steps of a run
last_steps : (k : Circuit) → IsCircuit k → (most t : ℕ) (c d : Config) → Reaches (Goes k) most c d → t ≤ most
    → Reaches (Goes k) t (back k d t) d
last_steps k circuit most t c d made within =
    let cut = runs_split (Goes k) (most - t) t most c d (omega arith) made in
    subst (λ x. Reaches (Goes k) t x d) (sym (Reaches-back k circuit t cut.0 d cut.2)) cut.2

pub mirrors-run_back : MirrorsRunBack
mirrors-run_back v s m n admitted is most t c made within other =
    let begun = back (circuit_of s) s.config t in
    let last = last_steps (circuit_of s) admitted.circuit most t c s.config made within in
    (mirror_runs v s m n admitted is t begun last other, mirror_situation v s m n admitted is t begun last other)

-- ---- start and end

pub mirrors-exchange_ends : MirrorsExchangeEnds
mirrors-exchange_ends v s m admitted is = (
  λ left. is.place ∙ ap (mirrored_place s.wires) left ∙ ap (λ (l : Line). Enter l.element l.line) (sym is.start),
  λ begins. is.place ∙ ap (mirrored_place s.wires) begins ∙ ap (λ o. fed_place o s.start) admitted.unfed
      ∙ ap (λ (l : Line). Left l.element l.line) (sym is.end),
)

pub runs-come_back : RunsComeBack
runs-come_back v s m n admitted begins t c made is other =
    let there : Admits v (moved_to s c) = spellings-move v s c admitted
    (Reaches-IsConfig (circuit_of s) admitted.circuit t s.config c admitted.config made) in
    let restored = mirror_situation v (moved_to s c) m n there is t s.config made other in
    let end : n.end ≡ m.end = other.end ∙ sym is.end in
    record {
      reaches = mirror_runs v (moved_to s c) m n there is t s.config made other;
      restored = restored;
      left = ap (λ x. x.place) restored ∙ (mirrors-exchange_ends v s n admitted other).1 begins
          ∙ ap (λ (l : Line). Left l.element l.line) end;
    }

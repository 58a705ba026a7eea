-- The run of a board at its start is what its layout tells, and what is told of the machine's board.
use Rattle.std.specs.Prelude.{◌≡◌, ℕ, ◌+◌, ◌-◌, List, Option, Some, None, length, refl}
use Rattle.std.proofs.Common.{sym, ap, subst, ◌∙◌}
use Rattle.bn_circuits.specs.Counting.{one_if, tally}
use Rattle.bn_circuits.specs.Stepping.{places, run}
use Rattle.bn_circuits.specs.declared.place.Place.{Place}
use Rattle.bn_circuits.specs.declared.config.Config.{Config}
use Rattle.bn_element.specs.declared.rotary.Rotary.{Rotary}
use Rattle.bn_circuits.specs.Parts.{Parts}
use Rattle.bn_circuits.specs.RotaryNets.{rotary_circuit}
use Rattle.bn_machine.specs.Machine.{Program}
use Rattle.bn_machine.specs.Outcome.{Limits}
use Rattle.bn_table.specs.Rows.{Named}
use Rattle.bn_bennett.specs.Translation.{Translation}
use Rattle.bn_boards.specs.Boards.{IsBoard}
use Rattle.bn_boards.specs.Costs.{bound_of}
use Rattle.bn_boards.specs.declared.exit.Exit.{Exit}
use Rattle.bn_boards.specs.Layouts.{IsExit, IsNamedExit, Layout, is_moment, symbol_count_at, moments, named}
use Rattle.bn_boards.specs.Layouts.{unnamed}
use Rattle.bn_boards.specs.Flats.{Flat, IsAccepted, IsFlatOf, flat_start}
use Rattle.bn_boards.specs.LayoutLaws.{ExitsAreOne}
use Rattle.bn_boards.proofs.LetterLemmas.{symbols_are}
use Rattle.bn_boards.specs.RunLaws.{BoardsRunToTheirExit}
use Rattle.bn_board.specs.Flattened.{Flattened, IsSameBoard}
use Rattle.bn_circuits.specs.Watching.{Hears}
use Rattle.bn_reply.specs.declared.status.Status.{Status}
use Rattle.bn_reply_relations.specs.Counts.{Counts}
use Rattle.bn_reply_relations.specs.RunReply.{HasMoment, RunReplies, TellsRun, board_after, budget, reached}
use Rattle.bn_reply_relations.specs.RunReply.{exit_status}
use Rattle.bn_reply_relations.specs.RunText.{run_text}
use Rattle.bn_reply_relations.specs.Laws.{ExitsAreNamed, MomentsAreCounted, found_text}
use Rattle.bn_reply_boards.specs.Opened.{IsBoardAsked, IsMade}
use Rattle.bn_reply_boards.specs.Running.{HasRun, IsAtStart, TellsFound, end_by, steps_for}
use Rattle.bn_reply_boards.specs.Shown.{HasNames, IsShown}
use Rattle.bn_reply_boards.proofs.AskedLemmas.{board_accepted, board_replies}
use Rattle.bn_reply_boards.proofs.NameLemmas.{exit_names}
use Rattle.bn_reply_boards.proofs.OpeningLemmas.{elements_are}

-- ---- a board that ran

budget_is : (given : Option ℕ) (f : Flat) (b : Layout) → f.layout ≡ b → steps_for b given ≡ budget f given
budget_is None f b same = ap bound_of (sym same)
budget_is (Some e) f b same = refl

module _ (given : Option ℕ) (f : Flat) (m : Translation) (b : Flattened) (start : IsAtStart f m b) where
  -- where the board comes to
  pub end_is : end_by b given ≡ reached f given
  end_is =
      (λ i. run (rotary_circuit b.net) (start.config i) (budget_is given f b.layout start.shown.layout i))
      ∙ ap (λ k. run k (flat_start f) (budget f given)) (sym start.circuit)

  pub board_ran : (d : Flattened) (n board_after first : ℕ) (e : Exit) (steps : ℕ) (told heard : Option (List Place))
      → n ≡ steps_for b.layout given → IsSameBoard b d
      → d.config ≡ run (rotary_circuit b.net) b.config n → board_after
      ≡ tally (is_moment b.layout) (rotary_circuit b.net) n b.config
      → first ≡ one_if (is_moment b.layout b.config) → steps ≡ first + board_after - 1
      → IsExit d.layout d.config.place e
      → Hears told (places (rotary_circuit b.net) n b.config) heard → HasRun given f m d e steps told heard
  board_ran d n board_after first e steps told heard budget_of same ran counted begun less found hears =
      let layout : d.layout ≡ f.layout = same.layout ∙ sym start.shown.layout in
      let whole : n ≡ budget f given = budget_of ∙ budget_is given f b.layout start.shown.layout in
      let config : d.config ≡ reached f given = ran ∙ ap (λ k. run (rotary_circuit b.net) b.config k) budget_of
      ∙ end_is in
      let circuit : rotary_circuit b.net ≡ f.circuit = sym start.circuit in
      record {
        shown = record {
          translation = start.shown.translation;
          layout = sym layout;
          elements = start.shown.elements ∙ ap (λ (net : Parts Rotary). length net.elements) (sym same.net);
        };
        config = config;
        is_exit = subst (λ (c : Config). IsExit f.layout c.place e) config
            (subst (λ x. IsExit x d.config.place e) layout found);
        steps_are = less ∙ (λ i. begun i + counted i - 1)
            ∙ (λ i. moments (sym start.shown.layout i) (circuit i) (whole i) (start.config i) - 1);
        hears = subst (λ ps. Hears told ps heard) (λ i. places (circuit i) (whole i) (start.config i)) hears;
      }

  -- what is told of it
  pub ran_tells : (t : Named) (d : Flattened) (e : Exit) (steps : ℕ) (told heard : Option (List Place))
      → HasRun given f m d e steps told heard
      → (s : Status) (text : List ℕ) → s ≡ exit_status e → ((f : Flat) → IsShown f m d
      → text ≡ run_text t f d.config steps e)
      → TellsFound given t f s text (places f.circuit (budget f given) (flat_start f))
  ran_tells t d e steps told heard ran s text status is = record {
    exit = e;
    is_exit = ran.is_exit;
    status_is = status;
    text_is = is f ran.shown ∙ (λ i. run_text t f (ran.config i) (ran.steps_are i) e);
    told_is = refl;
  }

  pub ran_told : (t : Named) (d : Flattened) (e : Exit) (steps : ℕ) (told heard : Option (List Place))
      → HasRun given f m d e steps told heard
      → TellsFound given t f (exit_status e) (found_text given t f e) (places f.circuit (budget f given) (flat_start f))
  ran_told t d e steps told heard ran = record {
    exit = e;
    is_exit = ran.is_exit;
    status_is = refl;
    text_is = refl;
    told_is = refl;
  }

-- ---- the board of a machine

module _ (p : Program) (l : Limits) (symbols : List ℕ) (f : Flat) (m : Translation) (b : Flattened)
    (made : IsMade p l symbols f m b) where
  pub made_start : IsAtStart f m b
  made_start = record {
    shown = record {
      translation = made.translation;
      layout = made.layout;
      elements = sym (elements_are f.network b.net (subst (λ k. IsBoard f.network k) made.circuit
          made.comes.flat.is_board));
    };
    circuit = made.circuit;
    config = made.config;
  }

  letters_one : symbol_count_at b.layout 1 ≡ p.symbols
  letters_one = ap (λ x. symbol_count_at x 1) (sym made.layout)
      ∙ ap (λ zs. symbol_count_at (record {
        limits = f.layout.limits;
        symbols = zs;
        states = f.layout.states;
        firsts = f.layout.firsts;
        awaited = f.layout.awaited;
      }) 1) (symbols_are p symbols l f made.comes.flat)

  letters_three : symbol_count_at b.layout 3 ≡ p.symbols
  letters_three = ap (λ x. symbol_count_at x 3) (sym made.layout)
      ∙ ap (λ zs. symbol_count_at (record {
        limits = f.layout.limits;
        symbols = zs;
        states = f.layout.states;
        firsts = f.layout.firsts;
        awaited = f.layout.awaited;
      }) 3) (symbols_are p symbols l f made.comes.flat)

  pub made_letters : (symbol_count_at b.layout 1 ≡ p.symbols) × (symbol_count_at b.layout 3 ≡ p.symbols)
  made_letters = (letters_one, letters_three)

-- what the layout finds of a board that may be compiled is what is told of its run
pub found_tells : (given : Option ℕ) (t : Named) (symbols : List ℕ) (l : Limits) (f : Flat)
    → IsFlatOf t.machine symbols l f → IsAccepted t.machine symbols l f
    → ExitsAreNamed → MomentsAreCounted → (s : Status) (text : List ℕ) (told : List Place)
    → TellsFound given t f s text told → TellsRun given t f s text told
found_tells given t symbols l f flat accepted exits counts s text told found =
    let there = exits t.machine symbols l f flat accepted (budget f given) in
    let count = counts t.machine symbols l f flat accepted (budget f given) in
    record {
      exit = found.exit;
      is_exit = has_name there.0 there.1 found.is_exit;
      moments = moments f.layout f.circuit (budget f given) (flat_start f);
      counted = subst (Counts (HasMoment f) ((reached f given).steps + 1)) (sym count.1) count.0;
      status_is = found.status_is;
      text_is = found.text_is;
      told_is = found.told_is;
    }
  where
    has_name : (x : Exit) → IsNamedExit f.layout (reached f given).place x
        → IsExit f.layout (reached f given).place found.exit
        → IsNamedExit f.layout (reached f given).place found.exit
    has_name x there (named h) = h
    has_name x there (unnamed is none) = absurd (none x there)

-- the exit that the layout finds where a board has come to
pub found_at : (given : Option ℕ) (b d : Flattened) (n : ℕ) (e : Exit) → n ≡ steps_for b.layout given → IsSameBoard b d
    → d.config ≡ run (rotary_circuit b.net) b.config n
    → IsExit d.layout d.config.place e → IsExit b.layout (end_by b given).place e
found_at given b d n e budget_of same ran is =
    subst (λ (c : Config). IsExit b.layout c.place e) (ran ∙ ap (λ k. run (rotary_circuit b.net) b.config k) budget_of)
    (subst (λ x. IsExit x d.config.place e) same.layout is)

module _ (given : Option ℕ) (t : Named) (l : Limits) (symbols : List ℕ) (f : Flat) (m : Translation) (b : Flattened)
    (made : IsMade t.machine l symbols f m b)
    (accepted : IsAccepted t.machine symbols l f) where
  -- the table has names for whatever exit the board comes to
  pub made_names : ExitsAreOne → BoardsRunToTheirExit → (e : Exit) → IsExit b.layout (end_by b given).place e
      → HasNames t m e
  made_names ones boards e is =
      let start = made_start t.machine l symbols f m b made in
      let there : IsExit f.layout (reached f given).place e =
      subst (λ (c : Config). IsExit f.layout c.place e) (end_is given f m b start)
      (subst (λ x. IsExit x (end_by b given).place e) (sym made.layout) is) in
      subst (λ x. HasNames t x e) made.translation (exit_names t symbols l f made.comes.flat accepted ones boards
      (budget f given) e there)

-- ---- the board of bytes, a word and limits

module _ (given : Option ℕ) (bytes word : List ℕ) (l : Limits) (t : Named) (m : Translation) (b : Flattened)
    (asked : IsBoardAsked bytes word l t m b) where
  pub asked_start : IsAtStart asked.flat m b
  asked_start = made_start t.machine l asked.symbols asked.flat m b asked.made

  pub asked_letters : (symbol_count_at b.layout 1 ≡ t.machine.symbols)
      × (symbol_count_at b.layout 3 ≡ t.machine.symbols)
  asked_letters = made_letters t.machine l asked.symbols asked.flat m b asked.made

  pub asked_names : ExitsAreOne → BoardsRunToTheirExit → (e : Exit) → IsExit b.layout (end_by b given).place e
      → HasNames t m e
  asked_names = made_names given t l asked.symbols asked.flat m b asked.made (board_accepted bytes word l t m b asked)

  -- what the layout finds of it is an answer
  pub asked_runs : ExitsAreNamed → MomentsAreCounted → (s : Status) (text : List ℕ) (told : List Place)
      → TellsFound given t asked.flat s text told
      → RunReplies given word l bytes s text told
  asked_runs exits counts s text told found =
      board_replies (TellsRun given) bytes word l t m b asked s text told
      (found_tells given t asked.symbols l asked.flat asked.made.comes.flat (board_accepted bytes word l t m b asked)
      exits counts s text told found)

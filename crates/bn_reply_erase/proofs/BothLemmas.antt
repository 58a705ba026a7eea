-- What is answered to a word tells a halt exactly where both machines halt.
use Rattle.std.specs.Prelude.{◌≡◌, ℕ, List, [], refl}
use Rattle.std.proofs.Common.{sym, ap, ◌∙◌, arith}
use Rattle.bn_circuits.specs.declared.place.Place.{Place}
use Rattle.bn_bennett_laws.specs.Stages.{IsSpelledBy as IsOfMachine}
use Rattle.bn_table.specs.Rows.{Named}
use Rattle.bn_erase_laws.specs.Erasing.{IsWord}
use Rattle.bn_erase_laws.specs.Outcome.{HasErasingOutcome, Halted, ErasingOutcome, Running, Stuck}
use Rattle.bn_erase_laws.proofs.OutcomeLemmas.{halts_exactly, outcome_is_one}
use Rattle.bn_erase.specs.Joint.{IsJoint, Joint, joined}
use Rattle.bn_reply.specs.TableReply.{WordReplies}
use Rattle.bn_reply.specs.declared.status.Status.{Status}
use Rattle.bn_reply.specs.declared.status.Status.TheVariants.{Done}
use Rattle.bn_reply.proofs.SettledLemmas.{lettered_tells}
use Rattle.bn_reply.proofs.TableLemmas.{reads_table}
use Rattle.bn_reply_erase.specs.EraseReply.{CountedReplies, EraseRunReplies, LongReplies, TellsErasing, few}
use Rattle.bn_reply_erase.specs.EraseReply.{erased_lines, lettered, long, many, outcome_text, short, erasing_status}
use Rattle.bn_reply_erase.specs.Laws.{BothHalt, ErasingRunsTellBoth, IsAskedOf, TellsHalt}
use Rattle.bn_reply_erase.proofs.AnswerLemmas.{word_letters, word_nonblank}
use Rattle.bn_reply_erase.proofs.JudgedLemmas.{both_standard, joint_of_tables}
use Rattle.bn_reply_erase.proofs.PairLemmas.{ReadBoth, pair_tells, two_tells}
use Rattle.bn_reply_erase.proofs.SettledLemmas.{joint_alphabet}

module _ (bytes word : List ℕ) (t u : Named) (symbols : List ℕ) (n : ℕ) (h : IsAskedOf bytes word t u symbols) where
  abbrev j : Joint
  j = joined t u

  read_both : ReadBoth h.first h.second t u
  read_both = record {
    reads = h.reads_first;
    also = h.reads_second;
    standard = h.standard_first;
    fit = h.standard_second;
  }

  joint : IsJoint j
  joint = joint_of_tables t u (reads_table h.first t h.reads_first) (reads_table h.second u h.reads_second)

  -- the answer tells the run
  told_run : (status : Status) (text : List ℕ) (told : List Place) → EraseRunReplies word n bytes status text told
      → TellsErasing j n symbols status text told
  told_run status text told replies =
      let tells : Named → Named → Status → List ℕ → List Place → Type 0 =
      λ a b. WordReplies (LongReplies (joined a b) n) (lettered (joined a b)) word in
      let two = pair_tells tells bytes h.first h.second status text told h.cut replies in
      let words = two_tells tells h.first h.second t u status text told read_both two in
      by_length (lettered_tells (LongReplies j n) (lettered j) (joint_alphabet j joint) word symbols status text told
      h.spells words)
    where
      by_count : CountedReplies (TellsErasing j n symbols) j status text told
          → TellsErasing j n symbols status text told
      by_count (many more is status_is silent) = let less = h.few in absurd (omega (arith, more, less))
      by_count (few less answer) = answer

      by_length : LongReplies j n symbols status text told → TellsErasing j n symbols status text told
      by_length (long more is status_is silent) = let less = h.short in absurd (omega (arith, more, less))
      by_length (short less answer) = by_count answer

  -- the run from these symbols halts exactly where both machines do
  exactly : (i : ℕ) (work y : List ℕ) → (HasErasingOutcome j.first j.second symbols n i (Halted work y)
      → BothHalt t u symbols n i y × (work ≡ []))
      × (BothHalt t u symbols n i y → HasErasingOutcome j.first j.second symbols n i (Halted [] y))
  exactly i work y =
      let standards = both_standard h.first h.second t u read_both in
      let same : j.first.symbols ≡ j.second.symbols = joint.first_symbols ∙ sym joint.second_symbols in
      let spelled : IsOfMachine j.first symbols = word_letters j joint symbols h.spells.symbols_known in
      let nonblank : IsWord symbols = word_nonblank j symbols h.spells.symbols_known in
      let law = halts_exactly j.first j.second symbols standards.0 standards.1 same spelled nonblank n i in (
        λ o. let found = (law work y).0 o in (
          record {
            v = found.0;
            w = found.1;
            first = found.4;
            second = found.5;
            steps = found.6;
            in_time = found.2;
          },
          found.3,
        ),
        λ both. (law [] y).1 (both.v, both.w, both.in_time, refl, both.first, both.second, both.steps),
      )

  tells_halt : (status : Status) (text : List ℕ) (told : List Place) → TellsErasing j n symbols status text told
      → (i : ℕ) (y : List ℕ) → BothHalt t u symbols n i y → TellsHalt t u i y status text
  tells_halt status text told run i y both =
      let standards = both_standard h.first h.second t u read_both in
      let same = outcome_is_one j.first j.second standards.0 standards.1 symbols n run.steps i run.outcome (Halted [] y)
      run.comes_out ((exactly i [] y).1 both) in
      record {
        status_is = run.status_is ∙ ap erasing_status same.1;
        text_is = run.text_is ∙ (λ k. outcome_text j (same.0 k) (same.1 k));
      }

  halt_told : (status : Status) (text : List ℕ) (told : List Place) → TellsErasing j n symbols status text told
      → status ≡ Done →
      (i : ℕ) × (y : List ℕ) × BothHalt t u symbols n i y × TellsHalt t u i y status text
  halt_told status text told run is = by_outcome run.outcome run.comes_out run.status_is run.text_is
    where
      by_outcome : (o : ErasingOutcome) → HasErasingOutcome j.first j.second symbols n run.steps o
          → status ≡ erasing_status o → text ≡ outcome_text j run.steps o →
          (i : ℕ) × (y : List ℕ) × BothHalt t u symbols n i y × TellsHalt t u i y status text
      by_outcome (Halted work y) comes status_is text_is =
          let found = (exactly run.steps work y).0 comes in (
            run.steps,
            y,
            found.0,
            record { status_is = is; text_is = text_is ∙ ap (λ ws. erased_lines j run.steps ws y) found.1 },
          )
      by_outcome (Stuck name) comes status_is text_is = absurd (not_done (sym status_is ∙ is))
        where
          not_done : erasing_status (Stuck name) ≡ Done → ⊥
          not_done e = cc e
      by_outcome Running comes status_is text_is = absurd (not_done (sym status_is ∙ is))
        where
          not_done : erasing_status Running ≡ Done → ⊥
          not_done e = cc e

pub erasing_runs_tell_both : ErasingRunsTellBoth
erasing_runs_tell_both bytes word t u symbols n status text told h replies =
    let run = told_run bytes word t u symbols n h status text told replies in (
      tells_halt bytes word t u symbols n h status text told run,
      halt_told bytes word t u symbols n h status text told run,
    )

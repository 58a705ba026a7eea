-- One name after another.
use Rattle.std.proofs.Common.{◌≡◌, ◌∷◌, [], refl, sym, subst, arith}
use Rattle.bn_csv.specs.Numbering.{with_name}
use Rattle.bn_quad.specs.Names.{Naming, naming_of}
use Rattle.bn_quad.specs.Kept.{rule_of}
use Rattle.bn_quad.specs.declared.quad.Quad.{Quad}
use Rattle.bn_qtable.specs.Draft.{Adds, HasRoom}
use Rattle.bn_qtable.specs.Fields.{said}
use Rattle.std.specs.Prelude.{bytes_eq}
use Rattle.bn_csv.proofs.AddedLemmas.{new_length, new_stays}
use Rattle.bn_qtable.proofs.Drafting.{quad-kept}
use Rattle.bn_qtable.proofs.lists.Lists.number.Goals as goal

pub number_of-requires-2 : goal.number_of-requires-2
number_of-requires-2 c =
    let l = c.self.inside in
    let room : HasRoom (naming_of l.states l.one l.two l.three) = subst HasRoom (sym c.self.view_is) c.requires.room in
    let after : c.number_of.new.self ≡ with_name l.states c.args.fields.now.state.now = c.in_ok-state.ensures.names in
    record { room = rw after (omega (arith, room.states, new_length bytes_eq l.states c.args.fields.now.state.now)) }

pub returns-clause-adds : goal.returns-clause-adds
returns-clause-adds c =
    let l = c.self.inside in
    let s = said c.args.fields.now in
    let q : Quad = record {
      state = c.in_ok-state.state;
      read = c.in_ok-read1.read1 ∷ c.in_ok-read2.read2 ∷ c.in_ok-read3.read3 ∷ [];
      act = c.in_ok-read1.act1 ∷ c.in_ok-read2.act2 ∷ c.in_ok-read3.act3 ∷ [];
      next = c.in_ok-next.next;
    } in
    let states1 : c.number_of.new.self ≡ with_name l.states s.state = c.in_ok-state.ensures.names in
    let states2 : c.number_of-2.new.self ≡ with_name c.number_of.new.self s.next = c.in_ok-next.ensures.names in
    let l2 : Naming = naming_of c.number_of-2.new.self c.number_text.new.symbols c.number_text-2.new.symbols
    c.number_text-3.new.symbols in
    let P : Naming → Type 0 = λ n. Adds n s (rule_of q) l2 in
    subst P c.self.view_is (record {
      states_after = rw (← states1) states2;
      one_after = c.in_ok-read1.ensures.symbols;
      two_after = c.in_ok-read2.ensures.symbols;
      three_after = c.in_ok-read3.ensures.symbols;
      from = rw states2 (new_stays bytes_eq c.number_of.new.self s.next s.state c.in_ok-state.state
          c.in_ok-state.ensures.number);
      one = c.in_ok-read1.ensures.stands;
      two = c.in_ok-read2.ensures.stands;
      three = c.in_ok-read3.ensures.stands;
      to = c.in_ok-next.ensures.number;
      forms = c.requires.forms;
    })

pub returns-clause-kept : goal.returns-clause-kept
returns-clause-kept c =
    let q : Quad = record {
      state = c.in_ok-state.state;
      read = c.in_ok-read1.read1 ∷ c.in_ok-read2.read2 ∷ c.in_ok-read3.read3 ∷ [];
      act = c.in_ok-read1.act1 ∷ c.in_ok-read2.act2 ∷ c.in_ok-read3.act3 ∷ [];
      next = c.in_ok-next.next;
    } in
    quad-kept q (c.in_ok-read1.ensures.unmixed, c.in_ok-read2.ensures.unmixed, c.in_ok-read3.ensures.unmixed) refl refl

use Rattle.std.proofs.Common.{◌≡◌, ◌<◌, ◌^◌, List, length, subst, sym, Some, map, slice_get}
use Rattle.bn_control.specs.declared.name.StateName.{StateName}
use Rattle.bn_control.specs.Ordered.{HasNumber}
use Rattle.bn_control.specs.Names.{state_of}
use Rattle.bn_control.proofs.DraftLemmas.{final_first, other_first, entry_number, entry_line}
use Rattle.bn_control.proofs.draft.Draft.first.Goals as goal

pub returns-in-End : goal.returns-in-End
returns-in-End c = λ m a is sent. final_first m c.args.self.now is a c.args.entry.now sent c.in-End.is

pub number_of-number-requires : goal.number_of-number-requires
number_of-number-requires c = record {
  known = subst (λ (l : List StateName). HasNumber l c.args.entry.now.state) (sym c.as_slice.ensures.value)
      (entry_number c.requires.machine c.args.self.now c.requires.is c.requires.state c.args.entry.now c.requires.sent);
  few = subst (λ (l : List StateName). length l < 2 ^ 32) (sym c.as_slice.ensures.value) c.requires.is.few_states;
}

pub out_number-requires-clause-within : goal.out_number-requires-clause-within
out_number-requires-clause-within c = entry_line c.requires.machine c.args.self.now c.requires.is c.requires.state
    c.args.entry.now c.requires.sent

pub returns-in_default : goal.returns-in_default
returns-in_default c = λ m a is sent.
    let number = subst (λ (l : List StateName). slice_get (map state_of l) c.number_of-number.result
    ≡ Some (state_of c.args.entry.now.state)) c.as_slice.ensures.value c.number_of-number.ensures in
    other_first m c.args.self.now is a c.args.entry.now c.number_of-number.result c.out_number.result sent
    c.in_default.not-End number (c.out_number.ensures m is.symbols)

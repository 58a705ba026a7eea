-- The table that `inverse` prints is within the limit of an input.
use Rattle.std.specs.Prelude.{◌≡◌, ℕ, ◌≤◌, Bool, true, false, ◌&&◌, nat_le, List, [], ◌∷◌, length, reverse}
use Rattle.std.specs.List.{list_all}
use Rattle.std.proofs.Common.{refl, arith, ◌∙◌, subst, inl, inr}
use Rattle.std.proofs.lemmas.Bool.{leb-true}
use Rattle.std.proofs.lemmas.List.{length-map, length-reverse}
use Rattle.std.proofs.lemmas.Nat.{mul-le}
use Rattle.bn_lists.specs.Lists.{IsIn}
use Rattle.bn_csv.specs.Entries.{entries_of}
use Rattle.bn_csv.specs.Forms.{is_name_byte, is_state_name, is_symbol, is_symbol_byte}
use Rattle.bn_quad.specs.Quadruples.{Rule, inverse_of, turned}
use Rattle.bn_qtable.specs.Reading.{ReadsQuadruples}
use Rattle.bn_qtable.specs.Rows.{QuadTable, said_of_quadruple}
use Rattle.bn_bennett_laws.proofs.MembershipLemmas.{in_cases, not_in_empty}
use Rattle.bn_renumbering.proofs.BackLemmas.{as_many}
use Rattle.bn_reply_machines.specs.InverseReply.{inverse_text}
use Rattle.bn_reply_erase.specs.PrintedSizes.{InverseTextsMayBeRead}
use Rattle.bn_reply_erase.proofs.PrintedRowLemmas.{AreShortNames, IsShort, act_short, lines_short, name_short}
use Rattle.bn_reply_erase.proofs.PrintedRowLemmas.{read_short}

both_true : (a b : Bool) → (a && b) ≡ true → (a ≡ true) × (b ≡ true)
both_true true b e = (refl, e)
both_true false b e = absurd (let never : false ≡ true = e in cc)

-- each name passes a test that all pass
each_passes : (test : List ℕ → Bool) (names : List (List ℕ)) → list_all test names ≡ true → (name : List ℕ)
    → IsIn names name → test name ≡ true
each_passes test [] all name h = absurd (not_in_empty name h)
each_passes test (x ∷ names) all name h =
    let both = both_true (test x) (list_all test names) all in
    elim (in_cases x name names h) [
      | inl same ↦ subst (λ n. test n ≡ true) same both.0
      | inr further ↦ each_passes test names both.1 name further
    ]

states_short : (names : List (List ℕ)) → list_all is_state_name names ≡ true → AreShortNames 32 names
states_short names all name h =
    let form = each_passes is_state_name names all name h in
    let sizes = (both_true (nat_le 1 (length name) && nat_le (length name) 32) (list_all is_name_byte name) form).0 in
    leb-true (length name) 32 (both_true (nat_le 1 (length name)) (nat_le (length name) 32) sizes).1

symbols_short : (names : List (List ℕ)) → list_all is_symbol names ≡ true → AreShortNames 32 names
symbols_short names all name h =
    let form = each_passes is_symbol names all name h in
    let sizes = (both_true (nat_le 1 (length name) && nat_le (length name) 8) (list_all is_symbol_byte name) form).0 in
    let low = leb-true (length name) 8 (both_true (nat_le 1 (length name)) (nat_le (length name) 8) sizes).1 in
    omega arith

module _ (bytes : List ℕ) (t : QuadTable) (reads : ReadsQuadruples bytes t) where
  row_short : (r : Rule ℕ) → IsShort 32 (said_of_quadruple t.names r)
  row_short r =
      let s = reads.spelled in
      let one = symbols_short t.names.one s.one_form in
      let two = symbols_short t.names.two s.two_form in
      let three = symbols_short t.names.three s.three_form in
      let states = states_short t.names.states s.states_form in
      record {
        state = name_short 32 t.names.states states r.from;
        one_read = read_short 32 t.names.one (omega arith) one r.one;
        two_read = read_short 32 t.names.two (omega arith) two r.two;
        three_read = read_short 32 t.names.three (omega arith) three r.three;
        one_act = act_short 32 t.names.one (omega arith) one r.one;
        two_act = act_short 32 t.names.two (omega arith) two r.two;
        three_act = act_short 32 t.names.three (omega arith) three r.three;
        next = name_short 32 t.names.states states r.to;
      }

  pub inverse_text_short : length (inverse_text t) ≤ 268435456
  inverse_text_short =
      let rules = (inverse_of t.machine).rules in
      let lines = lines_short (said_of_quadruple t.names) 32 rules (λ r h. row_short r) in
      let turned_count : length rules ≡ length t.machine.rules =
      length-map (reverse t.machine.rules) turned ∙ length-reverse t.machine.rules in
      let count = as_many (entries_of bytes) t reads in
      let most = reads.few in
      let few : length rules ≤ 20000 = omega arith in
      let all = mul-le 264 (length rules) 264 20000 (omega arith) few in
      omega arith

pub inverse-read : InverseTextsMayBeRead
inverse-read bytes t reads = inverse_text_short bytes t reads

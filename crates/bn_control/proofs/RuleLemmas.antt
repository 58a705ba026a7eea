-- The quadruples of a machine as the program keeps them, one by one, and their commands.
use Rattle.std.proofs.Common.{◌≡◌, get_or, ℕ, suc, ◌+◌, ◌<◌, ◌≤◌, List, [], ◌∷◌, ◌++◌, length, map, Option, Some, None}
use Rattle.std.proofs.Common.{inl, inr, refl, sym, ap, subst, ◌∙◌, arith, length-append}
use Rattle.std.proofs.lemmas.List.{length-map, get_or-map}
use Rattle.std.proofs.lemmas.Option.{slice_get-get_or}
use Rattle.bn_lists.specs.Lists.{nth, Has}
use Rattle.bn_machine.specs.declared.quint.Shift.TheVariants as way
use Rattle.bn_machine.specs.declared.quint.Side.{Side}
use Rattle.bn_quad.specs.Quadruples.{Move, Rule, Quadruples}
use Rattle.bn_quad.specs.Calls.{IsUniformMachine}
use Rattle.bn_quad.specs.Kept.{quad_of, read_of, act_of}
use Rattle.bn_quad.specs.declared.quad.Quad.{Quad}
use Rattle.bn_quad.specs.declared.quad.Act.{Act}
use Rattle.bn_quad.specs.declared.quad.Act.TheVariants.{Write, Shift}
use Rattle.bn_network.specs.Controls.{leaves, IsFirstOf, reads_of, shifts_of, writes_of}
use Rattle.bn_network.proofs.UniformLemmas.{silent}
use Rattle.bn_control.specs.declared.command.Command.{Command}
use Rattle.bn_control.specs.declared.name.Symbols.{Symbols}
use Rattle.bn_control.specs.Names.{IsProper, symbols_of}
use Rattle.bn_control.specs.Commands.{sending_of, commands_by, read_command, read_commands, shift_command}
use Rattle.bn_control.specs.Commands.{shift_commands, write_command, write_commands}
use Rattle.bn_control.specs.Shown.{written}
use Rattle.bn_control.specs.Entries.{IsFirstSent}
use Rattle.bn_control.proofs.NamesLemmas.{NamedCommand, command_of, read_names, shift_names, write_names}
use Rattle.bn_control.proofs.CommandLemmas.{commands_are}

-- the quadruple at a place
pub record IsRuleAt (m : Quadruples) (i : ℕ) (q : Quad) : Type 0 where
  pub rule : Rule ℕ
  pub stands : nth m.rules (i + 1) ≡ Some rule
  pub kept : q ≡ quad_of rule

pub no_rule : Rule ℕ
no_rule = record { from = 0; one = Move way.Stay; two = Move way.Stay; three = Move way.Stay; to = 0 }

pub rule_at : (m : Quadruples) (quads : List Quad) (i : ℕ) (d : Quad) → quads ≡ map quad_of m.rules → i < length quads
    → IsRuleAt m i (get_or quads i d)
rule_at m quads i d is low =
    let count : length quads ≡ length m.rules = ap length is ∙ length-map m.rules quad_of in
    let few : i < length m.rules = omega arith in
    let place : i + 1 ≡ suc i = omega arith in
    record {
      rule = get_or m.rules i no_rule;
      stands = ap (nth m.rules) place ∙ slice_get-get_or m.rules i no_rule few;
      kept = ap (λ l. get_or l i d) is ∙ get_or-map quad_of m.rules i no_rule d few;
    }

-- ---- proper states

abbrev pub AreProper : List Command → Type 0
AreProper [] = Unit {0}
AreProper (c ∷ cs) = IsProper c.sending.state × AreProper cs

joined : (xs ys : List Command) → AreProper xs → AreProper ys → AreProper (xs ++ ys)
joined [] ys h k = k
joined (x ∷ xs) ys h k = (h.0, joined xs ys h.1 k)

read_proper : (a : ℕ) (s : Symbols) (t : ℕ) (o : Option ℕ) → AreProper (read_command a s t o)
read_proper a s t None = tt
read_proper a s t (Some c) = (refl, tt)

shift_proper : (n t : ℕ) (a : Act) → AreProper (shift_command n t a)
shift_proper n t (Write c) = tt
shift_proper n t (Shift way.Left) = (tt, tt)
shift_proper n t (Shift way.Stay) = tt
shift_proper n t (Shift way.Right) = (tt, tt)

write_proper : (a : ℕ) (s : Symbols) (t : ℕ) (w : Act) → t ≤ 3 → AreProper (write_command a s t w)
write_proper a s t (Write c) low = (low, tt)
write_proper a s t (Shift k) low = tt

-- the states of a quadruple's commands
pub commands_proper : (n : ℕ) (r : Rule ℕ) → AreProper (commands_by n r)
commands_proper n r =
    let sa = symbols_of None None in
    let sb = symbols_of (read_of r.one) None in
    let sc = symbols_of (read_of r.one) (read_of r.two) in
    let wc = symbols_of (written (act_of r.two)) (written (act_of r.one)) in
    let wb = symbols_of (written (act_of r.one)) None in
    joined (read_commands r) (shift_commands n r ++ write_commands r)
    (joined (read_command r.from sa 1 (read_of r.one)) (read_command r.from sb 2 (read_of r.two)
    ++ read_command r.from sc 3 (read_of r.three)) (read_proper r.from sa 1 (read_of r.one))
    (joined (read_command r.from sb 2 (read_of r.two)) (read_command r.from sc 3 (read_of r.three))
    (read_proper r.from sb 2 (read_of r.two)) (read_proper r.from sc 3 (read_of r.three))))
    (joined (shift_commands n r) (write_commands r)
    (joined (shift_command n 1 (act_of r.one)) (shift_command n 2 (act_of r.two) ++ shift_command n 3 (act_of r.three))
    (shift_proper n 1 (act_of r.one))
    (joined (shift_command n 2 (act_of r.two)) (shift_command n 3 (act_of r.three)) (shift_proper n 2 (act_of r.two))
    (shift_proper n 3 (act_of r.three))))
    (joined (write_command r.to wc 3 (act_of r.three)) (write_command r.to wb 2 (act_of r.two)
    ++ write_command r.to sa 1 (act_of r.one)) (write_proper r.to wc 3 (act_of r.three) (omega arith))
    (joined (write_command r.to wb 2 (act_of r.two)) (write_command r.to sa 1 (act_of r.one))
    (write_proper r.to wb 2 (act_of r.two) (omega arith)) (write_proper r.to sa 1 (act_of r.one) (omega arith)))))

pub each_proper : (cs : List Command) → AreProper cs → (c : Command) → Has cs c → IsProper c.sending.state
each_proper [] ps c h = absurd h
each_proper (d ∷ cs) ps c (inl e) = subst (λ (y : Command). IsProper y.sending.state) (sym e) ps.0
each_proper (d ∷ cs) ps c (inr h) = each_proper cs ps.1 c h

-- ---- how many commands there are

read_few : (a : ℕ) (s : Symbols) (t : ℕ) (o : Option ℕ) → length (read_command a s t o) ≤ 1
read_few a s t None = omega arith
read_few a s t (Some c) = omega arith

shift_few : (n t : ℕ) (a : Act) → length (shift_command n t a) ≤ 1
shift_few n t (Write c) = omega arith
shift_few n t (Shift way.Left) = omega arith
shift_few n t (Shift way.Stay) = omega arith
shift_few n t (Shift way.Right) = omega arith

write_few : (a : ℕ) (s : Symbols) (t : ℕ) (w : Act) → length (write_command a s t w) ≤ 1
write_few a s t (Write c) = omega arith
write_few a s t (Shift k) = omega arith

three_few : (xs ys zs : List Command) → length xs ≤ 1 → length ys ≤ 1 → length zs ≤ 1 → length (xs ++ (ys ++ zs)) ≤ 3
three_few xs ys zs a b c = omega (arith, length-append xs (ys ++ zs), length-append ys zs)

pub commands_few : (n : ℕ) (r : Rule ℕ) → length (commands_by n r) ≤ 9
commands_few n r =
    let sa = symbols_of None None in
    let sb = symbols_of (read_of r.one) None in
    let sc = symbols_of (read_of r.one) (read_of r.two) in
    let wc = symbols_of (written (act_of r.two)) (written (act_of r.one)) in
    let wb = symbols_of (written (act_of r.one)) None in
    let reads = three_few (read_command r.from sa 1 (read_of r.one)) (read_command r.from sb 2 (read_of r.two))
    (read_command r.from sc 3 (read_of r.three)) (read_few r.from sa 1 (read_of r.one))
    (read_few r.from sb 2 (read_of r.two)) (read_few r.from sc 3 (read_of r.three)) in
    let shifts = three_few (shift_command n 1 (act_of r.one)) (shift_command n 2 (act_of r.two))
    (shift_command n 3 (act_of r.three)) (shift_few n 1 (act_of r.one)) (shift_few n 2 (act_of r.two))
    (shift_few n 3 (act_of r.three)) in
    let writes = three_few (write_command r.to wc 3 (act_of r.three)) (write_command r.to wb 2 (act_of r.two))
    (write_command r.to sa 1 (act_of r.one)) (write_few r.to wc 3 (act_of r.three))
    (write_few r.to wb 2 (act_of r.two)) (write_few r.to sa 1 (act_of r.one)) in
    sum (length (read_commands r)) (length (shift_commands n r)) (length (write_commands r)) (length (commands_by n r))
    (length (shift_commands n r ++ write_commands r)) reads shifts writes
    (length-append (read_commands r) (shift_commands n r ++ write_commands r))
    (length-append (shift_commands n r) (write_commands r))
  where
    sum : (a b c all more : ℕ) → a ≤ 3 → b ≤ 3 → c ≤ 3 → all ≡ a + more → more ≡ b + c → all ≤ 9
    sum a b c all more x y z e f = omega arith

-- ---- the first command

module _ (m : Quadruples) (u : IsUniformMachine m) (n : ℕ) (r : Rule ℕ) (here : nth m.rules n ≡ Some r) where
  pub record HasFirst (cs : List Command) : Type 0 where
    pub first : Command
    pub rest : List Command
    pub begins : cs ≡ first ∷ rest
    pub sent : IsFirstSent m r.from first.sending

  first_name : (rs : List (ℕ × ℕ)) (ss : List (ℕ × Side)) → reads_of r ≡ rs → shifts_of r ≡ ss
      → (c : NamedCommand) × ((cs : List NamedCommand) × (read_names r.from [] rs
      ++ (shift_names n ss ++ write_names r.to (writes_of r)) ≡ c ∷ cs) × IsFirstOf n r rs ss c.0)
  first_name [] [] er es = absurd (u.uniform.active.none n r here (silent r er es))
  first_name [] (p ∷ ss) er es = (_, (_, refl, refl))
  first_name (p ∷ rs) ss er es = (_, (_, refl, refl))

  with_first : (cs : List Command) → (c : NamedCommand) (ns : List NamedCommand) → map command_of cs ≡ c ∷ ns
      → AreProper cs → IsFirstOf n r (reads_of r) (shifts_of r) c.0 → HasFirst cs
  with_first [] c ns e proper first = absurd (cc)
  with_first (d ∷ ds) c ns e proper first =
      let same : command_of d ≡ c = cc in
      let sent : sending_of d.sending ≡ c.0 = ap (λ (x : NamedCommand). x.0) same in
      record {
        first = d;
        rest = ds;
        begins = refl;
        sent = record {
          entry = leaves n r here refl (subst (IsFirstOf n r (reads_of r) (shifts_of r)) (sym sent) first);
          proper = proper.0;
        };
      }

  pub has_first : HasFirst (commands_by n r)
  has_first = let name = first_name (reads_of r) (shifts_of r) refl refl in with_first (commands_by n r) name.0 name.1.0
      (commands_are n r ∙ name.1.1) (commands_proper n r) name.1.2

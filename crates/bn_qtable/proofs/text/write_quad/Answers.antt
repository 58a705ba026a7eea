-- The eight fields are the quadruple's entry.
use Rattle.std.proofs.Common.{◌≡◌, ◌∙◌, ap, arith, ◌++◌, ◌∷◌, [], List, ℕ, refl, sym, subst}
use Rattle.std.specs.Prelude.{OnOk}
use Rattle.std.proofs.lemmas.Option.{get_or_from_slice_get}
use Rattle.bn_csv.specs.Lines.{line_of}
use Rattle.bn_machine.specs.declared.quint.Shift.TheVariants.{Stay}
use Rattle.bn_quad.specs.Kept.{deed_of, read_at, rule_of}
use Rattle.bn_quad.specs.declared.quad.Act.{Act}
use Rattle.bn_quad.specs.declared.quad.Act.TheVariants.{Write, Shift}
use Rattle.bn_qtable.specs.Entry.{act_field, quadruple_entry, read_field}
use Rattle.bn_qtable.specs.Rows.{said_deed, said_of_quadruple}
use Rattle.bn_qtable.proofs.Writing.{plain-state-at, same-get}
use Rattle.bn_qtable.proofs.text.write_quad.Goals as goal

pub write_entry-requires : goal.write_entry-requires
write_entry-requires c =
    let names = c.args.names.now.states in
    record {
      plain = rw (
        plain-state-at names c.args.quad.now.state c.state-state.result.now c.state-state.ensures.name
            c.requires.named.from,
        c.fields_on.ensures.plain.0,
        c.fields_on-2.ensures.plain.0,
        c.fields_on-3.ensures.plain.0,
        c.fields_on.ensures.plain.1,
        c.fields_on-2.ensures.plain.1,
        c.fields_on-3.ensures.plain.1,
        plain-state-at names c.args.quad.now.next c.state-next.result.now c.state-next.ensures.name c.requires.named.to,
      ) refl;
    }

pub returns : goal.returns
returns c =
    let names = c.args.names.now.states in
    let a = sym (get_or_from_slice_get names c.args.quad.now.state c.state-state.result.now []
    c.state-state.ensures.name) in
    let b = sym (get_or_from_slice_get names c.args.quad.now.next c.state-next.result.now [] c.state-next.ensures.name)
    in
    let long = c.requires.acts in
    let w1 = same-get c.args.quad.now.act 0 (Write 0) (Shift Stay) (omega (arith, long)) in
    let r1 = c.fields_on.ensures.read ∙ ap (λ (a : Act). read_field
    (said_deed c.args.names.now.one (deed_of (read_at c.args.quad.now 0) a))) w1 in
    let w2 = same-get c.args.quad.now.act 1 (Write 0) (Shift Stay) (omega (arith, long)) in
    let r2 = c.fields_on-2.ensures.read ∙ ap (λ (a : Act). read_field
    (said_deed c.args.names.now.two (deed_of (read_at c.args.quad.now 1) a))) w2 in
    let w3 = same-get c.args.quad.now.act 2 (Write 0) (Shift Stay) (omega (arith, long)) in
    let r3 = c.fields_on-3.ensures.read ∙ ap (λ (a : Act). read_field
    (said_deed c.args.names.now.three (deed_of (read_at c.args.quad.now 2) a))) w3 in
    let a1 = c.fields_on.ensures.act ∙ ap (λ (a : Act). act_field
    (said_deed c.args.names.now.one (deed_of (read_at c.args.quad.now 0) a))) w1 in
    let a2 = c.fields_on-2.ensures.act ∙ ap (λ (a : Act). act_field
    (said_deed c.args.names.now.two (deed_of (read_at c.args.quad.now 1) a))) w2 in
    let a3 = c.fields_on-3.ensures.act ∙ ap (λ (a : Act). act_field
    (said_deed c.args.names.now.three (deed_of (read_at c.args.quad.now 2) a))) w3 in
    let P : List (List ℕ) → Type 0 = λ fields. OnOk c.write_entry.result
    (c.write_entry.new.self ≡ c.args.writer.now ++ line_of fields) in
    let entry : c.state-state.result.now ∷ c.fields_on.result.0.now ∷ c.fields_on-2.result.0.now
    ∷ c.fields_on-3.result.0.now ∷ c.fields_on.result.1.now ∷ c.fields_on-2.result.1.now
    ∷ c.fields_on-3.result.1.now ∷ c.state-next.result.now ∷ []
    ≡ quadruple_entry (said_of_quadruple c.args.names.now (rule_of c.args.quad.now)) =
    λ i. a i ∷ r1 i ∷ r2 i ∷ r3 i ∷ a1 i ∷ a2 i ∷ a3 i ∷ b i ∷ [] in
    subst P entry c.write_entry.ensures.ok

-- The entries of a text as they are read, line by line.
use Rattle.std.specs.Prelude.{◌≡◌, ◌≢◌, ℕ, ◌+◌, ◌-◌, ◌==◌, Bool, true, false, List, [], ◌∷◌, ◌++◌, length, replicate}
use Rattle.std.specs.Prelude.{Option, Some, None, refl}
use Rattle.std.proofs.Common.{suc, arith, sym, ap, subst, ◌∙◌, inl, inr}
use Rattle.std.proofs.lemmas.Bool.Decides.{nat_tests, eqb_tells}
use Rattle.std.proofs.lemmas.List.{append_assoc, append-nil}
use Rattle.bn_circuits.specs.declared.line.Line.{Line}
use Rattle.bn_circuits.specs.declared.line.Wire.{Wire}
use Rattle.bn_element.specs.Rotary.{vertical, east}
use Rattle.bn_netlist_laws.specs.Faults.{wires_from}
use Rattle.bn_netlist_laws.specs.Sentences.{Sentence, Title, Count, Start, End, Steps, At, Element, Column, Row}
use Rattle.bn_netlist_laws.specs.Spelling.{header_then}
use Rattle.bn_netlist_laws.specs.Faults.{Fault, out_of_order, next_number, row_number, bars_in, wires_after}
use Rattle.bn_netlist_laws.specs.Faults.{row_targets, wire_fault, or_else, outputs_fault, fault_of}
use Rattle.bn_netlist_laws.specs.declared.header.Header.{Header}
use Rattle.bn_netlist_laws.proofs.LineLemmas.{wires_after-more, rows_left-append, length_more}
use Rattle.bn_netlist_laws.proofs.WholeLemmas.{states_in-append}
use Rattle.bn_packed.specs.Ends.{EndList}
use Rattle.bn_netlist.specs.Drafting.{AreKept, RefusesBy, finds, column_fault, ConnectsAll, ConnectsColumn, own_in}
use Rattle.bn_netlist.specs.Drafting.{Holds, Reads}
use Rattle.bn_netlist.specs.declared.line_refusal.NetlistRefusal.{NetlistRefusal}
use Rattle.bn_netlist.specs.declared.line_refusal.NetlistRefusal.TheVariants.{Order}

-- ---- what a line is judged by

-- of the lines before it, the header, and the wires
outputs_same : (h : Header) (rows : List Sentence) (ws : List Wire) (e o : ℕ) (xs : List (Option Line))
    → outputs_fault (header_then h rows) ws e o xs ≡ outputs_fault (header_then h []) ws e o xs
outputs_same h rows ws e o [] = refl
outputs_same h rows ws e o (None ∷ xs) = outputs_same h rows ws e (suc o) xs
outputs_same h rows ws e o (Some to ∷ xs) =
    let w : Wire = record { from = record { element = e; line = o }; to = to } in
    ap (or_else (wire_fault (header_then h []) ws (record { element = e; line = o }) to))
    (outputs_same h rows (ws ++ w ∷ []) e (suc o) xs)

pub row_fault : (h : Header) (rows : List Sentence) (ws : List Wire) (e : ℕ) (x y : Option Line) → length rows ≡ e + 1
    → ws ≡ wires_after 6 rows → fault_of (header_then h rows) (Row x y)
    ≡ outputs_fault (header_then h []) ws e east (row_targets x y)
row_fault h rows ws e x y count are =
    let number : row_number (length (header_then h rows)) ≡ e = omega arith in
    ap (λ (n : ℕ). outputs_fault (header_then h rows) (wires_after 6 rows) n east (row_targets x y)) number
    ∙ outputs_same h rows (wires_after 6 rows) e east (row_targets x y)
    ∙ ap (λ (vs : List Wire). outputs_fault (header_then h []) vs e east (row_targets x y)) (sym are)

pub element_fault : (h : Header) (rows : List Sentence) (ws : List Wire) (e q : ℕ) (ts : List (Option Line))
    → length rows ≡ e → ws ≡ wires_after 6 rows → fault_of (header_then h rows) (Element e q ts)
    ≡ outputs_fault (header_then h []) ws e 0 ts
element_fault h rows ws e q ts count are =
    let number : (e == next_number (length (header_then h rows))) ≡ true = grind (arith, nat_tests) in
    rw number (outputs_same h rows (wires_after 6 rows) e 0 ts
    ∙ ap (λ (vs : List Wire). outputs_fault (header_then h []) vs e 0 ts) (sym are))

pub column_line_fault : (h : Header) (rows : List Sentence) (ws : List Wire) (e k q : ℕ) → length rows ≡ e
    → ws ≡ wires_after 6 rows → fault_of (header_then h rows) (Column e k q) ≡ column_fault h ws e k
column_line_fault h rows ws e k q count are =
    let number : (e == next_number (length (header_then h rows))) ≡ true = grind (arith, nat_tests) in
    rw number (ap (λ (vs : List Wire). column_fault h vs e k) (sym are))

pub element_order : (h : Header) (rows : List Sentence) (n e q : ℕ) (ts : List (Option Line)) → length rows ≡ e → n ≢ e
    → fault_of (header_then h rows) (Element n q ts) ≡ Some out_of_order
element_order h rows n e q ts count apart =
    elim (eqb_tells n (next_number (length (header_then h rows)))) [
      | inl same ↦ absurd (apart (let is : n ≡ next_number (length (header_then h rows)) = same.1 in omega arith))
      | inr other ↦ rw other.0 refl
    ]

pub column_order : (h : Header) (rows : List Sentence) (n e k q : ℕ) → length rows ≡ e → n ≢ e
    → fault_of (header_then h rows) (Column n k q) ≡ Some out_of_order
column_order h rows n e k q count apart =
    elim (eqb_tells n (next_number (length (header_then h rows)))) [
      | inl same ↦ absurd (apart (let is : n ≡ next_number (length (header_then h rows)) = same.1 in omega arith))
      | inr other ↦ rw other.0 refl
    ]

-- ---- one line more

own_in-append : (xs ys : List Sentence) → own_in (xs ++ ys) ≡ own_in xs ++ own_in ys
own_in-append [] ys = refl
own_in-append (Title v ∷ xs) ys = own_in-append xs ys
own_in-append (Count c ∷ xs) ys = own_in-append xs ys
own_in-append (Start l ∷ xs) ys = own_in-append xs ys
own_in-append (End l ∷ xs) ys = own_in-append xs ys
own_in-append (Steps t ∷ xs) ys = own_in-append xs ys
own_in-append (At p ∷ xs) ys = own_in-append xs ys
own_in-append (Element n q ts ∷ xs) ys = ap (λ (bs : List Bool). true ∷ bs) (own_in-append xs ys)
own_in-append (Column e k q ∷ xs) ys = ap (λ (bs : List Bool). replicate k false ++ false ∷ bs) (own_in-append xs ys)
    ∙ sym (append_assoc (replicate k false) (false ∷ own_in xs) (own_in ys))
own_in-append (Row x y ∷ xs) ys = own_in-append xs ys

pub row_read : (h : Header) (rows : List Sentence) (lines left e more less : ℕ) (states : List ℕ) (own : List Bool)
    (drawn new : EndList) (fed fed_new : List Bool) (x y : Option Line) → lines ≡ e + 1 → more ≡ lines + 1
    → less ≡ left - 1 → Holds h rows lines left states own drawn fed
    → ConnectsAll h e east (row_targets x y) (wires_after 6 rows) new fed_new
    → Reads h rows (Row x y) more less states own new fed_new
row_read h rows lines left e more less states own drawn new fed fed_new x y at_e next fewer holds connects =
    let lines_are : lines ≡ length rows = holds.lines_are in
    let made = length_more rows (Row x y) in
    let place : row_number (6 + length rows) ≡ e = omega arith in
    record {
      faultless = row_fault h rows (wires_after 6 rows) e x y (omega arith) refl ∙ connects.faultless;
      holds = record {
        lines_are = omega arith;
        left_are = fewer ∙ ap (λ (n : ℕ). n - 1) holds.left_are ∙ sym (rows_left-append 0 rows (Row x y ∷ []));
        states_are = holds.states_are ∙ sym (append-nil (bars_in rows)) ∙ sym (states_in-append rows (Row x y ∷ []));
        own_are = holds.own_are ∙ sym (append-nil (own_in rows)) ∙ sym (own_in-append rows (Row x y ∷ []));
        kept = subst (λ (ws : List Wire). AreKept h.count ws new fed_new)
            (ap (λ (n : ℕ). wires_after 6 rows ++ wires_from n east (row_targets x y)) (sym place)
            ∙ sym (wires_after-more 6 rows (Row x y))) connects.kept;
      };
    }

pub element_read : (h : Header) (rows : List Sentence) (lines left more q n : ℕ) (states states_new : List ℕ)
    (own own_new : List Bool) (drawn new : EndList) (fed fed_new : List Bool) (ts : List (Option Line)) → n ≡ lines
    → more ≡ lines + 1 → states_new ≡ states ++ q ∷ [] → own_new ≡ own ++ true ∷ []
    → Holds h rows lines left states own drawn fed → ConnectsAll h lines 0 ts (wires_after 6 rows) new fed_new
    → Reads h rows (Element n q ts) more left states_new own_new new fed_new
element_read h rows lines left more q n states states_new own own_new drawn new fed fed_new ts number next pushed owned
    holds connects =
    let lines_are : lines ≡ length rows = holds.lines_are in
    let whole : Reads h rows (Element lines q ts) more left states_new own_new new fed_new = read_at lines_are in
    subst (λ (m : ℕ). Reads h rows (Element m q ts) more left states_new own_new new fed_new) (sym number) whole
  where
    read_at : lines ≡ length rows → Reads h rows (Element lines q ts) more left states_new own_new new fed_new
    read_at lines_are =
        let made = length_more rows (Element lines q ts) in
        record {
          faultless = element_fault h rows (wires_after 6 rows) lines q ts (sym lines_are) refl ∙ connects.faultless;
          holds = record {
            lines_are = omega arith;
            left_are = holds.left_are ∙ sym (rows_left-append 0 rows (Element lines q ts ∷ []));
            states_are = pushed ∙ ap (λ (qs : List ℕ). qs ++ q ∷ []) holds.states_are
                ∙ sym (states_in-append rows (Element lines q ts ∷ []));
            own_are = owned ∙ ap (λ (bs : List Bool). bs ++ true ∷ []) holds.own_are
                ∙ sym (own_in-append rows (Element lines q ts ∷ []));
            kept = subst (λ (ws : List Wire). AreKept h.count ws new fed_new)
                (sym (wires_after-more 6 rows (Element lines q ts))) connects.kept;
          };
        }

pub column_read : (h : Header) (rows : List Sentence) (lines left more k q n : ℕ) (states states_new : List ℕ)
    (own own_new : List Bool) (drawn new : EndList) (fed fed_new : List Bool) → n ≡ lines → more ≡ lines + 1
    → states_new ≡ states ++ (replicate k vertical ++ q ∷ []) → own_new ≡ own ++ (replicate k false ++ false ∷ [])
    → Holds h rows lines left states own drawn fed → ConnectsColumn h lines k (wires_after 6 rows) new fed_new
    → Reads h rows (Column n k q) more k states_new own_new new fed_new
column_read h rows lines left more k q n states states_new own own_new drawn new fed fed_new number next pushed owned
    holds connects =
    subst (λ (m : ℕ). Reads h rows (Column m k q) more k states_new own_new new fed_new) (sym number)
    (read_at holds.lines_are)
  where
    read_at : lines ≡ length rows → Reads h rows (Column lines k q) more k states_new own_new new fed_new
    read_at lines_are =
        let made = length_more rows (Column lines k q) in
        record {
          faultless = column_line_fault h rows (wires_after 6 rows) lines k q (sym lines_are) refl ∙ connects.faultless;
          holds = record {
            lines_are = omega arith;
            left_are = sym (rows_left-append 0 rows (Column lines k q ∷ []));
            states_are = pushed ∙ ap (λ (qs : List ℕ). qs ++ (replicate k vertical ++ q ∷ [])) holds.states_are
                ∙ sym (states_in-append rows (Column lines k q ∷ []));
            own_are = owned ∙ ap (λ (bs : List Bool). bs ++ (replicate k false ++ false ∷ [])) holds.own_are
                ∙ sym (own_in-append rows (Column lines k q ∷ []));
            kept = subst (λ (ws : List Wire). AreKept h.count ws new fed_new)
                (sym (wires_after-more 6 rows (Column lines k q))) connects.kept;
          };
        }

-- a refusal for a fault of the same line
pub refuses_same : (found other : Option Fault) (n m : ℕ) (r : NetlistRefusal) → found ≡ other → n ≡ m
    → RefusesBy found n r → RefusesBy other m r
refuses_same found other n m r same lines is = subst (λ (o : Option Fault). RefusesBy o m r) same
    (subst (λ (i : ℕ). RefusesBy found i r) lines is)

pub refuses_order : (found : Option Fault) (n m : ℕ) → found ≡ Some out_of_order → n ≡ m → RefusesBy found m (Order n)
refuses_order found n m is lines = finds out_of_order is (ap Order lines)

pub element_fault_at : (h : Header) (rows : List Sentence) (ws : List Wire) (n e q : ℕ) (ts : List (Option Line))
    → n ≡ e → length rows ≡ e → ws ≡ wires_after 6 rows → outputs_fault (header_then h []) ws e 0 ts
    ≡ fault_of (header_then h rows) (Element n q ts)
element_fault_at h rows ws n e q ts same count are =
    subst (λ (m : ℕ). outputs_fault (header_then h []) ws e 0 ts ≡ fault_of (header_then h rows) (Element m q ts))
    (sym same) (sym (element_fault h rows ws e q ts count are))

pub column_fault_at : (h : Header) (rows : List Sentence) (ws : List Wire) (n e k q : ℕ) → n ≡ e → length rows ≡ e
    → ws ≡ wires_after 6 rows → column_fault h ws e k ≡ fault_of (header_then h rows) (Column n k q)
column_fault_at h rows ws n e k q same count are =
    subst (λ (m : ℕ). column_fault h ws e k ≡ fault_of (header_then h rows) (Column m k q)) (sym same)
    (sym (column_line_fault h rows ws e k q count are))

pub connects_there : (h : Header) (e k : ℕ) (old : List Wire) (new last : EndList) (fed marks : List Bool)
    → last ≡ new → marks ≡ fed → ConnectsColumn h e k old new fed → ConnectsColumn h e k old last marks
connects_there h e k old new last fed marks same same_marks is =
    subst (λ (d : EndList). ConnectsColumn h e k old d marks) (sym same)
    (subst (λ (bs : List Bool). ConnectsColumn h e k old new bs) (sym same_marks) is)

-- One more entry of a table.
use Rattle.std.proofs.Common.{◌≡◌, ◌≤◌, ◌∷◌, ◌++◌, ◌∙◌, ℕ, List, [], length, Some, refl, sym, ap, subst, arith}
use Rattle.std.proofs.Common.{slice_get, append_assoc, nat_eq, length-append, All}
use Rattle.std.specs.Prelude.{bytes_eq}
use Rattle.std.proofs.lemmas.Bool.Decides.{Decides-eqb}
use Rattle.std.proofs.lemmas.List.{map-append}
use Rattle.std.proofs.lemmas.List.Concat.{flat_map-append}
use Rattle.std.proofs.lemmas.List.Elements.{All-nil, All-push, All-head, All-tail, All-weaker}
use Rattle.std.proofs.lemmas.Option.{slice_get_within, get_or_from_slice_get}
use Rattle.bn_csv.specs.Forms.{is_state_name, is_symbol_byte}
use Rattle.bn_csv.specs.Numbering.{firsts, firsts_by, with_name}
use Rattle.bn_csv.proofs.NumberingLemmas.{firsts-push, firsts_push}
use Rattle.bn_csv.proofs.AddedLemmas.{front, new_all, new_grows}
use Rattle.bn_machine.specs.Machine.{IsInRange}
use Rattle.bn_machine.specs.declared.quint.Quint.{Quint}
use Rattle.bn_table.specs.Entry.{HasForms, Said, entry_of}
use Rattle.bn_table.specs.Rows.{SpellsQuintuples, blank, letters_in, names_in, rows_by, with_letter}
use Rattle.bn_table.proofs.SaidLemmas.{said_of}
use Rattle.bn_csv.specs.Entries.{field_at}

-- the entries of quintuples stay when names and letters are added
rows-stay : (names more : List (List ℕ)) (letters extra : List ℕ) (quints : List Quint)
    → All (IsInRange (length names) (length letters)) quints
    → rows_by (names ++ more) (letters ++ extra) quints ≡ rows_by names letters quints
rows-stay names more letters extra [] h = refl
rows-stay names more letters extra (q ∷ qs) h =
    let here : IsInRange (length names) (length letters) q = All-head (IsInRange (length names) (length letters)) q qs h
    in
    rw (
      front names more [] q.state here.state,
      front letters extra 0 q.read here.read,
      front letters extra 0 q.write here.write,
      front names more [] q.next here.next,
    )
    (ap (λ (t : List (List (List ℕ))). entry_of (said_of names letters q) ∷ t)
    (rows-stay names more letters extra qs (All-tail (IsInRange (length names) (length letters)) q qs h)))

wider : (states symbols f z : ℕ) → states ≤ f → symbols ≤ z → (q : Quint) → IsInRange states symbols q → IsInRange f z q
wider states symbols f z a b q h = record {
  state = omega (arith, h.state);
  read = omega (arith, h.read);
  write = omega (arith, h.write);
  next = omega (arith, h.next);
}

-- the quintuple q says s, and the names and letters are those of before with the ones that s has
pub record Adds (names : List (List ℕ)) (letters : List ℕ) (s : Said) (q : Quint) (names2 : List (List ℕ))
    (letters2 : List ℕ) : Type 0 where
  pub names_after : names2 ≡ with_name (with_name names s.state) s.next
  pub letters_after : letters2 ≡ with_letter (with_letter letters s.read) s.write
  pub state : slice_get names2 q.state ≡ Some s.state
  pub read : slice_get letters2 q.read ≡ Some s.read
  pub write : slice_get letters2 q.write ≡ Some s.write
  pub next : slice_get names2 q.next ≡ Some s.next
  pub shift : q.shift ≡ s.shift
  pub forms : HasForms s

said-added : (names : List (List ℕ)) (letters : List ℕ) (s : Said) (q : Quint) (names2 : List (List ℕ))
    (letters2 : List ℕ) → Adds names letters s q names2 letters2
    → entry_of (said_of names2 letters2 q) ≡ entry_of s
said-added names letters s q names2 letters2 h =
    rw (
      get_or_from_slice_get names2 q.state s.state [] h.state,
      get_or_from_slice_get letters2 q.read s.read 0 h.read,
      get_or_from_slice_get letters2 q.write s.write 0 h.write,
      get_or_from_slice_get names2 q.next s.next [] h.next,
      h.shift,
    ) refl

names-after : (entries : List (List (List ℕ))) (s : Said) → firsts (names_in (entries ++ entry_of s ∷ []))
    ≡ with_name (with_name (firsts (names_in entries)) s.state) s.next
names-after entries s =
    let more : names_in (entries ++ entry_of s ∷ []) ≡ (names_in entries ++ s.state ∷ []) ++ s.next ∷ [] =
    flat_map-append (λ fields. field_at fields 0 ∷ field_at fields 4 ∷ []) entries (entry_of s ∷ [])
    ∙ sym (append_assoc (names_in entries) (s.state ∷ []) (s.next ∷ [])) in
    rw more (firsts_push (names_in entries ++ s.state ∷ []) s.next ∙ rw (firsts_push (names_in entries) s.state) refl)

letters-after : (entries : List (List (List ℕ))) (s : Said)
    → firsts_by nat_eq (blank ∷ letters_in (entries ++ entry_of s ∷ []))
    ≡ with_letter (with_letter (firsts_by nat_eq (blank ∷ letters_in entries)) s.read) s.write
letters-after entries s =
    let more : blank ∷ letters_in (entries ++ entry_of s ∷ [])
    ≡ ((blank ∷ letters_in entries) ++ s.read ∷ []) ++ s.write ∷ [] =
    ap (λ (t : List ℕ). blank ∷ t) (flat_map-append (λ fields. field_at fields 1 ++ field_at fields 2) entries
    (entry_of s ∷ []) ∙ sym (append_assoc (letters_in entries) (s.read ∷ []) (s.write ∷ []))) in
    rw more (firsts-push nat_eq Decides-eqb ((blank ∷ letters_in entries) ++ s.read ∷ []) s.write
    ∙ rw (firsts-push nat_eq Decides-eqb (blank ∷ letters_in entries) s.read) refl)

-- one more entry, and its quintuple
pub spells-more : (names : List (List ℕ)) (letters : List ℕ) (quints : List Quint) (entries : List (List (List ℕ)))
    (s : Said) (q : Quint) (names2 : List (List ℕ)) (letters2 : List ℕ)
    → SpellsQuintuples names letters quints entries → Adds names letters s q names2 letters2
    → SpellsQuintuples names2 letters2 (quints ++ q ∷ []) (entries ++ entry_of s ∷ [])
spells-more names letters quints entries s q names2 letters2 h a =
    let (m1, first) = new_grows bytes_eq names s.state in
    let (m2, second) = new_grows bytes_eq (with_name names s.state) s.next in
    let (k1, third) = new_grows nat_eq letters s.read in
    let (k2, fourth) = new_grows nat_eq (with_letter letters s.read) s.write in
    let grown : names2 ≡ names ++ (m1 ++ m2) = a.names_after ∙ second ∙ ap (λ (t : List (List ℕ)). t ++ m2) first
    ∙ append_assoc names m1 m2 in
    let spread : letters2 ≡ letters ++ (k1 ++ k2) = a.letters_after ∙ fourth ∙ ap (λ (t : List ℕ). t ++ k2) third
    ∙ append_assoc letters k1 k2 in
    let longer : length names ≤ length names2 = rw grown (omega (arith, length-append names (m1 ++ m2))) in
    let wide : length letters ≤ length letters2 = rw spread (omega (arith, length-append letters (k1 ++ k2))) in
    let stay : rows_by names2 letters2 quints ≡ entries = rw (grown, spread)
    (rows-stay names (m1 ++ m2) letters (k1 ++ k2) quints h.in_range ∙ h.rows) in
    let here : IsInRange (length names2) (length letters2) q = record {
      state = slice_get_within names2 q.state s.state a.state;
      read = slice_get_within letters2 q.read s.read a.read;
      write = slice_get_within letters2 q.write s.write a.write;
      next = slice_get_within names2 q.next s.next a.next;
    } in
    record {
      rows = map-append (λ (r : Quint). entry_of (said_of names2 letters2 r)) quints (q ∷ [])
          ∙ rw (stay, said-added names letters s q names2 letters2 a) refl;
      in_range = All-push (IsInRange (length names2) (length letters2)) quints q
          (All-weaker (IsInRange (length names) (length letters)) (IsInRange (length names2) (length letters2))
          (wider (length names) (length letters) (length names2) (length letters2) longer wide) quints h.in_range) here;
      names_by_first = a.names_after ∙ rw h.names_by_first (sym (names-after entries s));
      letters_by_first = a.letters_after ∙ rw h.letters_by_first (sym (letters-after entries s));
      names_form = rw a.names_after (new_all bytes_eq is_state_name (with_name names s.state) s.next
          (new_all bytes_eq is_state_name names s.state h.names_form a.forms.state) a.forms.next);
      letters_form = rw a.letters_after (new_all nat_eq is_symbol_byte (with_letter letters s.read) s.write
          (new_all nat_eq is_symbol_byte letters s.read h.letters_form a.forms.read) a.forms.write);
    }

-- no entry
pub spells-none : SpellsQuintuples [] (blank ∷ []) [] []
unfolding firsts_by
spells-none = record {
  rows = refl;
  in_range = All-nil (IsInRange 0 1);
  names_by_first = refl;
  letters_by_first = refl;
  names_form = refl;
  letters_form = refl;
}

pub none-drafted : (names : List (List ℕ)) (letters : List ℕ) (quints : List Quint) → names ≡ [] → letters ≡ blank ∷ []
    → quints ≡ []
    → SpellsQuintuples names letters quints (rows_by names letters quints) × (rows_by names letters quints ≡ [])
none-drafted names letters quints a b c = rw (a, b, c) (spells-none, refl)

-- quintuples have their own entries
pub spells-own : (names : List (List ℕ)) (letters : List ℕ) (quints : List Quint) (entries : List (List (List ℕ)))
    → SpellsQuintuples names letters quints entries
    → SpellsQuintuples names letters quints (rows_by names letters quints)
spells-own names letters quints entries h =
    let P : List (List (List ℕ)) → Type 0 = λ rows. SpellsQuintuples names letters quints rows in subst P (sym h.rows) h

-- one more entry of a draft
pub one-drafted : (names : List (List ℕ)) (letters : List ℕ) (quints : List Quint) (s : Said) (q : Quint)
    (names2 : List (List ℕ)) (letters2 : List ℕ) (quints2 : List Quint)
    → SpellsQuintuples names letters quints (rows_by names letters quints) → Adds names letters s q names2 letters2
    → quints2 ≡ quints ++ q ∷ []
    → SpellsQuintuples names2 letters2 quints2 (rows_by names2 letters2 quints2)
    × (rows_by names2 letters2 quints2 ≡ rows_by names letters quints ++ entry_of s ∷ [])
one-drafted names letters quints s q names2 letters2 quints2 h a e =
    let more = spells-more names letters quints (rows_by names letters quints) s q names2 letters2 h a in
    rw e (
      spells-own names2 letters2 (quints ++ q ∷ []) (rows_by names letters quints ++ entry_of s ∷ []) more,
      more.rows,
    )

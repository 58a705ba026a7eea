-- How a script is played, one command after another.
use Rattle.std.specs.Prelude.{◌≡◌, ℕ, ◌+◌, ◌<◌, bytes_eq, cond, Bool, true, false, List, [], ◌∷◌, ◌++◌, length, take}
use Rattle.std.specs.Prelude.{drop, Option, Some, None, MatchOption, refl}
use Rattle.std.specs.Borrow.{Bor}
use Rattle.std.specs.Option.{option_copied}
use Rattle.std.proofs.Common.{sym, ap, subst, ◌∙◌, append_assoc, get_or}
use Rattle.std.proofs.lemmas.List.{append-nil, map-append, take-append-drop, take_more, drop_more}
use Rattle.bn_circuits.specs.Circuits.{Circuit}
use Rattle.bn_circuits.specs.declared.config.Config.{Config}
use Rattle.bn_session.specs.Labels.{without, standing_after, IsOrderly, AreOrderly}
use Rattle.bn_session.specs.Breakpoints.{Breakpoint, labels_of, without_break}
use Rattle.bn_session.specs.Sentences.{ScriptSentence, Step, Back, Go, Rev, BreakState, BreakElement, BreakLine}
use Rattle.bn_session.specs.Sentences.{Drop, View}
use Rattle.bn_session.specs.Scripts.{Names, Asks, AskFor}
use Rattle.bn_session.specs.Plays.{Session, session, label_that_holds, place_line, PlaysOne, Plays}
use Rattle.bn_session.specs.Boards.{IsPlayedFrom, IsStoppedFrom, IsOnePlayed, IsOneLeft, IsPlayedTo, Grows}
use Rattle.bn_session.specs.Boards.{GrowsByFront}
use Rattle.bn_session.specs.declared.command.Command.{Command}
use Rattle.bn_session.specs.declared.command.Command.TheVariants as commands

-- ---- one command

module _ (k : Circuit) (moment : Config → Option ℕ) (shows : Config → List ℕ → Type 0) (s : Session) where
  -- nothing of its answer was written
  pub left_unwritten : (x y : Command) (end : Session) (text : List ℕ) (c : Config) (old new : List ℕ) → x ≡ y
      → PlaysOne k moment shows y s end text → c ≡ end.config → new ≡ old → IsOneLeft k moment shows s x c old new
  left_unwritten x y end text c old new is plays config kept =
      subst (λ z. IsOneLeft k moment shows s z c old new) (sym is)
      (record {
        end = end;
        front = [];
        rest = text;
        plays = plays;
        config = config;
        written = kept ∙ sym (append-nil old);
      })

  -- a front of a view was written
  pub left_view : (x : Command) (old new : List ℕ) → x ≡ commands.View → GrowsByFront (shows s.config) old new
      → IsOneLeft k moment shows s x s.config old new
  left_view x old new is cut =
      subst (λ z. IsOneLeft k moment shows s z s.config old new) (sym is)
      (record {
        end = s;
        front = cut.front;
        rest = cut.rest;
        plays = (refl, cut.is);
        config = refl;
        written = cut.written;
      })

  -- a view was written
  pub view_written : (x : Command) (old new : List ℕ) → x ≡ commands.View → Grows (shows s.config) old new
      → IsOnePlayed k moment shows s x s old new
  view_written x old new is grows =
      subst (λ z. IsOnePlayed k moment shows s z s old new) (sym is)
      (record { text = grows.0; plays = (refl, grows.1); written = grows.2 })

  -- a command was played, and the line of its place written
  pub place_written : (x y : Command) (end : Session) (label other : Option (List ℕ)) (old new : List ℕ) → x ≡ y
      → PlaysOne k moment shows y s end (place_line end.config other) → label ≡ other
      → new ≡ old ++ place_line end.config label → IsOnePlayed k moment shows s x end old new
  place_written x y end label other old new is plays same written =
      subst (λ z. IsOnePlayed k moment shows s z end old new) (sym is)
      (record {
        text = place_line end.config other;
        plays = plays;
        written = written ∙ ap (λ l. old ++ place_line end.config l) same;
      })

-- the label that is answered is the one that is named
pub named_is : (moment others : Config → Option ℕ) → others ≡ moment → (breaks : List Breakpoint) (c d : Config)
    (o : Option (Bor (List ℕ))) → MatchOption o (label_that_holds others breaks c d ≡ None)
    (λ label. label_that_holds others breaks c d ≡ Some label.now)
    → option_copied o ≡ label_that_holds moment breaks c d
named_is moment others same breaks c d None h = sym h ∙ ap (λ m. label_that_holds m breaks c d) same
named_is moment others same breaks c d (Some label) h = sym h ∙ ap (λ m. label_that_holds m breaks c d) same

-- ---- labels

labels_without : (label : List ℕ) (bs : List Breakpoint) → labels_of (without_break label bs)
    ≡ without label (labels_of bs)
labels_without label [] = refl
labels_without label (b ∷ bs) = by (bytes_eq label b.label) (labels_without label bs)
  where
    by : (t : Bool) → labels_of (without_break label bs) ≡ without label (labels_of bs)
        → labels_of (cond t bs (b ∷ without_break label bs)) ≡ cond t (labels_of bs)
        (b.label ∷ without label (labels_of bs))
    by true later = refl
    by false later = ap (λ ls. b.label ∷ ls) later

-- the labels that stand after a command are those that the reading of the script takes to stand
pub labels_after : (k : Circuit) (moment : Config → Option ℕ) (shows : Config → List ℕ → Type 0) (x : Command)
    (s t : Session) (text : List ℕ) → PlaysOne k moment shows x s t text
    → labels_of t.breaks ≡ standing_after (labels_of s.breaks) x
labels_after k moment shows (commands.Step e) s t text p = ap (λ u. labels_of u.breaks) p.0
labels_after k moment shows (commands.Back e) s t text p = ap (λ u. labels_of u.breaks) p.0
labels_after k moment shows (commands.Go e) s t text p = ap labels_of p.1
labels_after k moment shows (commands.Rev e) s t text p = ap labels_of p.1
labels_after k moment shows (commands.BreakState label a) s t text p =
    ap (λ u. labels_of u.breaks) p.0 ∙ map-append (λ (b : Breakpoint). b.label) s.breaks _
labels_after k moment shows (commands.BreakElement label e) s t text p =
    ap (λ u. labels_of u.breaks) p.0 ∙ map-append (λ (b : Breakpoint). b.label) s.breaks _
labels_after k moment shows (commands.BreakLine label e l) s t text p =
    ap (λ u. labels_of u.breaks) p.0 ∙ map-append (λ (b : Breakpoint). b.label) s.breaks _
labels_after k moment shows (commands.Drop label) s t text p =
    ap (λ u. labels_of u.breaks) p.0 ∙ labels_without label s.breaks
labels_after k moment shows commands.View s t text p = ap (λ u. labels_of u.breaks) p.0

-- a script that was read is in order
asks_orderly : (names : Names) (standing : List (List ℕ)) (s : ScriptSentence) (x : Command) → Asks names standing s x
    → IsOrderly standing x
asks_orderly names standing (Step e) x a = subst (IsOrderly standing) (sym a) tt
asks_orderly names standing (Back e) x a = subst (IsOrderly standing) (sym a) tt
asks_orderly names standing (Go e) x a = subst (IsOrderly standing) (sym a) tt
asks_orderly names standing (Rev e) x a = subst (IsOrderly standing) (sym a) tt
asks_orderly names standing (BreakState label name) x (n, at, new, is) = subst (IsOrderly standing) (sym is) new
asks_orderly names standing (BreakElement label e) x a = subst (IsOrderly standing) (sym a.1) a.0
asks_orderly names standing (BreakLine label e l) x a = subst (IsOrderly standing) (sym a.1) a.0
asks_orderly names standing (Drop label) x a = subst (IsOrderly standing) (sym a.1) a.0
asks_orderly names standing View x a = subst (IsOrderly standing) (sym a) tt

pub asked_orderly : (names : Names) (standing : List (List ℕ)) (ss : List ScriptSentence) (xs : List Command)
    → AskFor names standing ss xs → AreOrderly standing xs
asked_orderly names standing [] xs none = subst (AreOrderly standing) (sym none) tt
asked_orderly names standing (s ∷ ss) xs (x, more, is, sayable, asks, rest) =
    subst (AreOrderly standing) (sym is) (
      asks_orderly names standing s x asks,
      asked_orderly names (standing_after standing x) ss more rest,
    )

-- ---- a script

plays-more : (k : Circuit) (moment : Config → Option ℕ) (shows : Config → List ℕ → Type 0) (xs : List Command)
    (x : Command) (s u t : Session) (text line : List ℕ) → Plays k moment shows xs s u text
    → PlaysOne k moment shows x u t line → Plays k moment shows (xs ++ x ∷ []) s t (text ++ line)
plays-more k moment shows [] x s u t text line p one =
    let whole : PlaysOne k moment shows x s t line = subst (λ v. PlaysOne k moment shows x v t line) p.0 one in
    (t, line, [], whole, (refl, refl), ap (λ r. r ++ line) p.1 ∙ sym (append-nil line))
plays-more k moment shows (y ∷ xs) x s u t text line (v, first, rest, plays, more, is) one = (
  v,
  first,
  rest ++ line,
  plays,
  plays-more k moment shows xs x v u t rest line more one,
  ap (λ r. r ++ line) is ∙ append_assoc first rest line,
)

-- ---- the same circuit in another configuration

module _ (k : Circuit) (moment : Config → Option ℕ) (shows : Config → List ℕ → Type 0) (l : Circuit)
    (later : Config → Option ℕ) (others : Config → List ℕ → Type 0) (circuits : l ≡ k) (moments : later ≡ moment)
    (showing : (c : Config) (text : List ℕ) → others c text → shows c text) (s : Session) (x : Command) where
  shown_first : (y : Command) (t : Session) (text : List ℕ) → PlaysOne k moment others y s t text
      → PlaysOne k moment shows y s t text
  shown_first (commands.Step e) t text p = p
  shown_first (commands.Back e) t text p = p
  shown_first (commands.Go e) t text p = p
  shown_first (commands.Rev e) t text p = p
  shown_first (commands.BreakState label a) t text p = p
  shown_first (commands.BreakElement label e) t text p = p
  shown_first (commands.BreakLine label e m) t text p = p
  shown_first (commands.Drop label) t text p = p
  shown_first commands.View t text p = (p.0, showing s.config text p.1)

  plays_first : (t : Session) (text : List ℕ) → PlaysOne l later others x s t text → PlaysOne k moment shows x s t text
  plays_first t text p =
      shown_first x t text (subst (λ z. z) (λ i. PlaysOne (circuits i) (moments i) others x s t text) p)

  pub played_first : (end : Session) (old new : List ℕ) → IsOnePlayed l later others s x end old new
      → IsOnePlayed k moment shows s x end old new
  played_first end old new one = record {
    text = one.text;
    plays = plays_first end one.text one.plays;
    written = one.written;
  }

  pub left_first : (c : Config) (old new : List ℕ) → IsOneLeft l later others s x c old new
      → IsOneLeft k moment shows s x c old new
  left_first c old new one = record {
    end = one.end;
    front = one.front;
    rest = one.rest;
    plays = plays_first one.end (one.front ++ one.rest) one.plays;
    config = one.config;
    written = one.written;
  }

-- ---- one command more

module _ (k : Circuit) (moment : Config → Option ℕ) (shows : Config → List ℕ → Type 0) (c0 : Config)
    (xs : List Command) (s : Session) (old mid new : List ℕ) (x : Command)
    (before : IsPlayedTo k moment shows c0 xs s old mid) where
  pub one_more : (end : Session) → IsOnePlayed k moment shows s x end mid new
      → IsPlayedTo k moment shows c0 (xs ++ x ∷ []) end old new
  one_more end one = record {
    text = before.text ++ one.text;
    plays = plays-more k moment shows xs x (session c0 []) s end before.text one.text before.plays one.plays;
    written = one.written ∙ ap (λ r. r ++ one.text) before.written ∙ append_assoc old before.text one.text;
  }

  pub one_left : (whole behind : List Command) (c : Config) → whole ≡ xs ++ x ∷ behind
      → IsOneLeft k moment shows s x c mid new → IsStoppedFrom k moment shows c0 whole c old new
  one_left whole behind c is one =
      record {
        text = before.text ++ one.front;
        within = record {
          before = xs;
          command = x;
          behind = behind;
          script = is;
          middle = s;
          lines = before.text;
          played = before.plays;
          end = one.end;
          front = one.front;
          rest = one.rest;
          plays = one.plays;
          config = one.config;
          written = refl;
        };
        written = one.written ∙ ap (λ r. r ++ one.front) before.written ∙ append_assoc old before.text one.front;
      }

pub all_played : (k : Circuit) (moment : Config → Option ℕ) (shows : Config → List ℕ → Type 0) (c0 : Config)
    (xs : List Command) (end : Session) (old new : List ℕ) → IsPlayedTo k moment shows c0 xs end old new
    → IsPlayedFrom k moment shows c0 xs end.config old new
all_played k moment shows c0 xs end old new h = record {
  end = end;
  text = h.text;
  plays = h.plays;
  config = refl;
  written = h.written;
}

-- ---- where the loop is

next_command : (xs : List Command) (n : ℕ) (x : Command) → n < length xs → x ≡ get_or xs n x
    → drop n xs ≡ x ∷ drop (n + 1) xs
next_command xs n x inside is = drop_more xs n x inside ∙ ap (λ y. y ∷ drop (n + 1) xs) (sym is)

pub whole_script : (xs ys : List Command) (n : ℕ) (x : Command) → ys ≡ xs → n < length ys → x ≡ get_or ys n x
    → xs ≡ take n ys ++ x ∷ drop (n + 1) ys
whole_script xs ys n x same inside is = sym same ∙ sym (take-append-drop n ys)
    ∙ ap (λ zs. take n ys ++ zs) (next_command ys n x inside is)

pub taken_more : (ys : List Command) (n : ℕ) (x : Command) → n < length ys → x ≡ get_or ys n x
    → take n ys ++ x ∷ [] ≡ take (n + 1) ys
taken_more ys n x inside is = ap (λ y. take n ys ++ y ∷ []) is ∙ sym (take_more ys n x inside)

pub orderly_next : (labels : List (List ℕ)) (ys : List Command) (n : ℕ) (x : Command) → n < length ys
    → x ≡ get_or ys n x → AreOrderly labels (drop n ys) → IsOrderly labels x
    × AreOrderly (standing_after labels x) (drop (n + 1) ys)
orderly_next labels ys n x inside is h = subst (AreOrderly labels) (next_command ys n x inside is) h

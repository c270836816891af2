-- A run: two ends are made, and then time goes on or something happens at one side, in any order.
use Rattle.std.specs.Prelude.{ℕ, ◌+◌, ◌≤◌, true, cond, List, [], ◌∷◌, ◌⊎◌, ◌≡◌, eqb}
use Rattle.rules.specs.Step.{Result}
use Rattle.rules.specs.declared.act.Event.TheVariants.{Message}
use Rattle.rules.specs.declared.state.Role.{Role}
use Rattle.rules.specs.declared.state.Role.TheVariants.{Initiator, Called}
use Rattle.run.specs.Run.{Making, Sound, begun as made}
use Rattle.run.specs.Events.{asks, accepts}
use Rattle.pair.specs.Among.{Among}
use Rattle.pair.specs.World.{Side, World}
use Rattle.pair.specs.Channel.{MayHandOver}
use Rattle.pair.specs.Happening.{Happening, result_at}
use Rattle.pair.specs.Told.{told_of}

-- ---- how it begins

-- how a side begins: its end is made, and its clock has a bias
pub record Origin : Type 0 where
  pub making : Making
  pub bias : ℕ

abbrev pub fresh_side : Origin → Side
fresh_side o =
    record {
      end = (made o.making).end;
      queue = (made o.making).queue;
      bias = o.bias;
      connection = 0;
      sent = 0;
      accepted = 0;
      log = [];
      handed = [];
      received = [];
      delivered = [];
    }

pub record Beginning : Type 0 where
  pub time : ℕ
  pub left : Origin
  pub right : Origin

-- `make` takes it, in a role; the reading, the bytes of the queue and the bias may be any
pub record SoundOrigin (role : Role) (o : Origin) : Type 0 where
  pub sound : Sound o.making
  pub in_role : o.making.role ≡ role

-- an initiator and a called end
pub record SoundBeginning (b : Beginning) : Type 0 where
  pub left : SoundOrigin Initiator b.left
  pub right : SoundOrigin Called b.right

abbrev pub begun : Beginning → World
begun b = record { time = b.time; asks = 0; answered = []; left = fresh_side b.left; right = fresh_side b.right }

-- ---- moves

pub data Move : Type 0 where
  -- time goes on by so many ticks, or by none
  wait : ℕ → Move
  -- something happens at the initiator, or at the called end
  at_left : Happening → Move
  at_right : Happening → Move

-- an ask that was made, and that no accept has answered
pub record Unanswered (asked : ℕ) (answered : List ℕ) (ask : ℕ) : Type 0 where
  pub some : 1 ≤ ask
  pub made : ask ≤ asked
  pub not_yet : Among ask answered → ⊥

-- a message is one that the channel may hand over, and an accept that is really put out answers such an ask or none: if none, it
-- begins no connection
pub record Lawful (w : World) (own other : Side) (h : Happening) : Type 0 where
  pub hands_over : h.event ≡ Message → MayHandOver w.time own other h.letter
  pub answers_ask : accepts (result_at w.time own h) ≡ true → (h.ask ≡ 0) ⊎ Unanswered w.asks w.answered h.ask

-- anything else may happen
abbrev pub May : World → Move → Type 0
May w (wait n) = Unit {0}
May w (at_left h) = Lawful w w.left w.right h
May w (at_right h) = Lawful w w.right w.left h

-- ---- what a move makes of the world

abbrev pub asks_after : ℕ → Result → ℕ
asks_after n r = cond (asks r) (n + 1) n

-- 0 is no ask
abbrev pub with_answer : ℕ → List ℕ → List ℕ
with_answer ask answered = cond (eqb ask 0) answered (ask ∷ answered)

abbrev pub answered_after : List ℕ → Happening → Result → List ℕ
answered_after answered h r = cond (accepts r) (with_answer h.ask answered) answered

abbrev pub side_after : World → Side → Happening → Side
side_after w s h = told_of w.time w.asks s h (result_at w.time s h)

abbrev pub next : World → Move → World
next w (wait n) =
    record { time = w.time + n; asks = w.asks; answered = w.answered; left = w.left; right = w.right }
next w (at_left h) =
    record {
      time = w.time;
      asks = asks_after w.asks (result_at w.time w.left h);
      answered = answered_after w.answered h (result_at w.time w.left h);
      left = side_after w w.left h;
      right = w.right;
    }
next w (at_right h) =
    record {
      time = w.time;
      asks = asks_after w.asks (result_at w.time w.right h);
      answered = answered_after w.answered h (result_at w.time w.right h);
      left = w.left;
      right = side_after w w.right h;
    }

-- ---- runs

-- the world after some moves, the newest of which stands first
unfoldable pub after : Beginning → List Move → World
after b [] = begun b
after b (m ∷ ms) = next (after b ms) m

-- each move is one that may be made where it is made
abbrev pub Run : Beginning → List Move → Type 0
Run b [] = Unit {0}
Run b (m ∷ ms) = Run b ms × May (after b ms) m

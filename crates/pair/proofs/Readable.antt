-- Whatever an end sends is read as what it said: its numbers and stamps have the widths of the line.
use Rattle.std.specs.Prelude.{Some}
use Prim.Native.Nat.{ℕ, ◌+◌, ◌^◌, ◌<◌}
use native.Mathlib.Nat.{mod-lt}
use native.Mathlib.Omega.{arith}
use mathlib.Core.List.{List}
use mathlib.Core.Path.{◌≡◌, subst}
use lib.Pow.{pow_pos}
use Rattle.wire.specs.Claims.{Fits}
use Rattle.wire.specs.Message.{parse}
use Rattle.wire.specs.declared.message.Header.{Header}
use Rattle.wire.specs.declared.message.Body.{Body}
use Rattle.wire.specs.declared.message.Message.{Message}
use Rattle.rules.specs.State.{zero_reading}
use Rattle.rules.specs.declared.state.Echo.{Echo}
use Rattle.rules.specs.declared.state.Life.{Life}
use Rattle.pair.specs.Among.{Among}
use Rattle.pair.specs.Happening.{Happening}
use Rattle.pair.specs.Run.{Origin, fresh_side}
use Rattle.pair.proofs.Among.{with_new}
use Rattle.pair.proofs.Notes.{Note, note_of}
use Rattle.pair.proofs.View.{View, view_of, clock_at, entering}
use Rattle.pair.proofs.Change.{Change, Hears, heard}
use Rattle.pair.proofs.Change.Change.{falls, gauges, lives, serves, sends, hears, delivers}
use Rattle.pair.proofs.Carried.{MayCome}

-- what goes into a header
pub record Widths (next : ℕ) (echo : Echo) : Type 0 where
  pub number : next < 2 ^ 16
  pub peer : echo.peer.0 < 2 ^ 32
  pub own : echo.own.0 < 2 ^ 32

pub record Reads (n : Note) : Type 0 where
  pub reads : parse n.letter.bytes ≡ Some n.message
  pub fits : Fits n.message

abbrev pub AllRead : List Note → Type 0
AllRead log = (n : Note) → Among n log → Reads n

abbrev pub Readable : View → Type 0
Readable x = record { wide : Widths x.count.next x.timing.echo; log : AllRead x.story.log }

zero_wide : Widths 0 (record { peer = zero_reading; own = zero_reading })
zero_wide = record { number = omega arith; peer = omega arith; own = omega arith }

pub clock_wide : (time : ℕ) (x : View) → (clock_at time x).0 < 2 ^ 32
clock_wide time x = mod-lt (time + x.fixed.bias) (pow_pos 32)

-- after a message that fits was accepted
pub heard_wide : (time : ℕ) (c : Happening) (x : View) (h : Header) (body : Body) → Widths x.count.next x.timing.echo
    → Hears c x h body → Fits (note_of c.letter).message
    → Widths x.count.next (record { peer = h.stamps.sent; own = clock_at time x })
heard_wide time c x h body w k fits =
    record {
      number = w.number;
      peer = subst (λ (m : Message). m.header.stamps.sent.0 < 2 ^ 32) k.says fits.sent;
      own = clock_wide time x;
    }

pub readable_begun : (o : Origin) → Readable (view_of (fresh_side o))
readable_begun o = record { wide = zero_wide; log = λ n i. absurd i }

pub readable_enters : (life : Life) (name : ℕ) (x : View) → Readable x → Readable (entering life name x)
readable_enters life name x r = record { wide = zero_wide; log = r.log }

module _ (time : ℕ) (c : Happening) (x : View) (log : List Note) (r : Readable x) (peer : AllRead log) (may : MayCome time c x log) where
  hear : (h : Header) (body : Body) → Hears c x h body → Readable (heard time c h x)
  hear h body k =
      record {
        wide = heard_wide time c x h body r.wide k (peer (note_of c.letter) (may k.comes).was_sent).fits;
        log = r.log;
      }

  pub readable_kept : (y : View) → Change time c x y → Readable y
  readable_kept y falls = record { wide = zero_wide; log = r.log }
  readable_kept y (gauges pair none) = r
  readable_kept y (lives life k) = r
  readable_kept y (serves user k) = r
  readable_kept y (sends n user k t) =
      record {
        wide = record { number = mod-lt (x.count.next + 1) (pow_pos 16); peer = r.wide.peer; own = r.wide.own };
        log = with_new n x.story.log Reads (record { reads = k.reads; fits = k.fits }) r.log;
      }
  readable_kept y (hears h body k) = hear h body k
  readable_kept y (delivers h body k up six young) = hear h body k

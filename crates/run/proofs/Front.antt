-- What was written to the front of a buffer is a part of it. Assumes nothing.
use mathlib.Core.Path.{◌≡◌, sym, ap}
use mathlib.Core.List.{List}
use Prim.Native.Nat.{ℕ, ◌≤◌}
use native.Mathlib.Omega.{arith}
use lib.ListN.{length, take, drop, length-append}
use lib.Seq.{take_at}
use Rattle.words.specs.Buffer.{placed}

pub record Front (rec buffer : List ℕ) (size : ℕ) : Type 0 where
  pub within : size ≤ length buffer
  pub front : take size buffer ≡ rec

pub front_of : (rec old buffer : List ℕ) (size : ℕ) → size ≡ length rec → buffer ≡ placed rec old → Front rec buffer size
front_of rec old buffer size e f =
    record {
      within = omega (arith, ap length f, length-append rec (drop (length rec) old));
      front = rw f (take_at rec (drop (length rec) old) size (sym e));
    }

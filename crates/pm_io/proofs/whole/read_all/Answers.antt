use Rattle.std.proofs.Common.{◌≡◌, ◌≤◌, ◌+◌, ◌-◌, ◌<◌, ℕ, List, length-append, length-take, arith, rules, ◌++◌, take, length, refl, inr}
use Rattle.std.proofs.KnownBytes.{Consumes-trans}
use Rattle.pm_io.proofs.Chains.{Consumes-stop}
use Rattle.pm_io.proofs.whole.read_all.Goals as goal
use Rattle.pm_io.proofs.whole.read_all.Goals.{then-room-lt-PIECE, else-room-lt-PIECE}

-- a piece that passes the room left is one byte longer than that
one_more : (xs piece : List ℕ) (n limit len : ℕ) → len ≡ length xs → n ≤ length piece
    → limit - len < n → length piece ≤ limit - len + 1 → len ≤ limit
    → length (xs ++ take n piece) ≡ limit + 1
one_more xs piece n limit len e h k l m = omega (arith, length-append {A = ℕ}, length-take {A = ℕ})

-- a piece that fits keeps within the limit
within_limit : (xs piece : List ℕ) (n limit len : ℕ) → len ≡ length xs → n ≤ limit - len → len ≤ limit
    → length (xs ++ take n piece) ≤ limit
within_limit xs piece n limit len e k m = omega (arith, length-append {A = ℕ}, length-take {A = ℕ})

pub returns-then-n-room-clause-too_long : goal.returns-then-n-room-clause-too_long
returns-then-n-room-clause-too_long g c _ =
    let had = c.reads.bytes.items in
    let came = take c.in-Bytes.n c.read.new.into in (
      had ++ came,
      Consumes-trans _ (g.R.Source.left c.reads.source) _ had came c.reads.invariant.taken (search rules),
      one_more had c.read.new.into c.in-Bytes.n c.args.limit c.len.result
          (search rules) (search rules) (search rules)
          (elim c.if-room-lt-PIECE.branch [ then-room-lt-PIECE w ↦ search rules | else-room-lt-PIECE w ↦ search rules ])
          (search rules),
    )

pub returns-then-n-room-clause-bounded : goal.returns-then-n-room-clause-bounded
returns-then-n-room-clause-bounded g c =
    let taken = returns-then-n-room-clause-too_long g c refl in
    let longest = taken.2 in
    (taken.0, taken.1, omega arith)

pub returns-in_err-extend_from_slice-in-Bytes-clause-within :
    goal.returns-in_err-extend_from_slice-in-Bytes-clause-within
returns-in_err-extend_from_slice-in-Bytes-clause-within g c =
    let had = c.reads.bytes.items in
    let came = take c.in-Bytes.n c.read.new.into in
    inr (
      had ++ came,
      Consumes-trans _ (g.R.Source.left c.reads.source) _ had came c.reads.invariant.taken (search rules),
      within_limit had c.read.new.into c.in-Bytes.n c.args.limit c.len.result (search rules) (search rules) (search rules),
    )

pub returns-in_err-extend_from_slice-in-Bytes-clause-bounded :
    goal.returns-in_err-extend_from_slice-in-Bytes-clause-bounded
returns-in_err-extend_from_slice-in-Bytes-clause-bounded g c =
    let had = c.reads.bytes.items in
    let came = take c.in-Bytes.n c.read.new.into in
    let fits : length (had ++ came) ≤ c.args.limit =
    within_limit had c.read.new.into c.in-Bytes.n c.args.limit c.len.result (search rules) (search rules) (search rules) in (
      had ++ came,
      Consumes-trans _ (g.R.Source.left c.reads.source) _ had came c.reads.invariant.taken (search rules),
      omega arith,
    )

pub returns-in-End-clause-all : goal.returns-in-End-clause-all
returns-in-End-clause-all g c =
    let had = c.reads.bytes.items in (
      Consumes-stop _ (g.R.Source.left c.reads.source) _ had c.reads.invariant.taken (search rules),
      search rules,
      search rules,
    )

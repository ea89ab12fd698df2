-- The words and numbers are read one after the other.
use Rattle.std.proofs.Common.{◌∷◌, ◌++◌, decimal, sym, arith}
use Rattle.reports.proofs.Cutting.{decimal-free}
use Rattle.reports.proofs.reading.head_of.Goals as goal

pub returns-in_err-number : goal.returns-in_err-number
returns-in_err-number c number count back small is =
    let words = c.args.second.now ++ (decimal count ++ 10 ∷ back) in
    let first = c.in_ok-numbers.ensures (decimal number ++ 32 ∷ words) is in
    absurd (c.in_err-number.ensures.parts (decimal number) words (decimal-free 32 number (omega arith)) first)

pub returns-in_err-counts : goal.returns-in_err-counts
returns-in_err-counts c number count back small is =
    let words = c.args.second.now ++ (decimal count ++ 10 ∷ back) in
    let first = c.in_ok-numbers.ensures (decimal number ++ 32 ∷ words) is in
    let next = c.in_ok-number.ensures.parts (decimal number) words (decimal-free 32 number (omega arith)) first in
    absurd (c.in_err-counts.ensures (decimal count ++ 10 ∷ back) next.1)

pub returns-in_err-count : goal.returns-in_err-count
returns-in_err-count c number count back small is =
    let words = c.args.second.now ++ (decimal count ++ 10 ∷ back) in
    let first = c.in_ok-numbers.ensures (decimal number ++ 32 ∷ words) is in
    let next = c.in_ok-number.ensures.parts (decimal number) words (decimal-free 32 number (omega arith)) first in
    let second = c.in_ok-counts.ensures (decimal count ++ 10 ∷ back) next.1 in
    absurd (c.in_err-count.ensures.parts (decimal count) back (decimal-free 10 count (omega arith)) second)

pub returns-in_err-count-2 : goal.returns-in_err-count-2
returns-in_err-count-2 c number count back small is =
    let words = c.args.second.now ++ (decimal count ++ 10 ∷ back) in
    let first = c.in_ok-numbers.ensures (decimal number ++ 32 ∷ words) is in
    let next = c.in_ok-number.ensures.parts (decimal number) words (decimal-free 32 number (omega arith)) first in
    let second = c.in_ok-counts.ensures (decimal count ++ 10 ∷ back) next.1 in
    let last = c.in_ok-count.ensures.parts (decimal count) back (decimal-free 10 count (omega arith)) second in
    let read = c.in_err-count-2.ensures count small (sym last.0) in
    absurd (cc)

pub returns : goal.returns
returns c number count back small is =
    let words = c.args.second.now ++ (decimal count ++ 10 ∷ back) in
    let first = c.in_ok-numbers.ensures (decimal number ++ 32 ∷ words) is in
    let next = c.in_ok-number.ensures.parts (decimal number) words (decimal-free 32 number (omega arith)) first in
    let second = c.in_ok-counts.ensures (decimal count ++ 10 ∷ back) next.1 in
    let last = c.in_ok-count.ensures.parts (decimal count) back (decimal-free 10 count (omega arith)) second in
    let read = c.in_ok-count-2.ensures count small (sym last.0) in
    (next.0, cc, last.1)

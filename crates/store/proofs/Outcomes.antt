-- What follows of an outcome.
use Rattle.std.proofs.Common.{OnOk, OnErr, IfErr, Result, Ok, Err}

pub ok-follows : {T E : Type 0} (result : Result T E) (P Q : Type 0) → OnOk result P → (P → Q) → OnOk result Q
ok-follows (Ok value) P Q h then = then h
ok-follows (Err fault) P Q h then = h

pub on-err-follows : {T E : Type 0} (result : Result T E) (P Q : Type 0) → OnErr result P → (P → Q) → OnErr result Q
on-err-follows (Ok value) P Q h then = h
on-err-follows (Err fault) P Q h then = then h

pub err-follows : {T E : Type 0} (result : Result T E) (Q S : E → Type 0) → IfErr result Q → ((fault : E) → Q fault → S fault)
    → IfErr result S
err-follows (Ok value) Q S h then = h
err-follows (Err fault) Q S h then = then fault h

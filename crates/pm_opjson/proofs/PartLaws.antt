-- Nodes, marks, slices and attributes as they are read.
use Rattle.std.proofs.Common.{◌≡◌, ap, sym, subst, Result, Ok, Err}
use Rattle.std.specs.Prelude.{Option, Some, None, unwrap_or}
use Rattle.pm_docjson.specs.declared.fault.DocReadError.{DocReadError}
use Rattle.pm_docjson.specs.declared.fault.DocReadError.TheVariants.{Shape, UnknownType, Attr, EmptyText, NotASet, Open, NoMemory, Large}
use Rattle.pm_docjson.specs.Answers as doc
use Rattle.pm_head.specs.declared.code.Code.{Code}
use Rattle.pm_head.specs.declared.code.Code.TheVariants.{InputTooLong}
use Rattle.pm_head.specs.declared.fault.LineError.{LineError}
use Rattle.pm_head.specs.Answers.{Fails}
use Rattle.pm_head.specs.Codes.{node_code}
use Rattle.pm_opjson.specs.Codes.{node_coded}
use Rattle.pm_opjson.specs.Faults.{fault_of}

-- a reading with this code has the fault of that code; without one, memory ran out
pub with-code : {A : Type 0} (o : Option Code) (r : Result A Code) → r ≡ Err (unwrap_or o InputTooLong) → Fails (fault_of o) r
with-code (Some code) r h = h
with-code None r h = tt

line-of : {A : Type 0} (e : DocReadError) (r : Result A DocReadError) → doc.Fails e r → Fails (fault_of (node_code e)) (node_coded r)
line-of Shape r f = ap node_coded f
line-of UnknownType r f = ap node_coded f
line-of Attr r f = ap node_coded f
line-of EmptyText r f = ap node_coded f
line-of NotASet r f = ap node_coded f
line-of Open r f = ap node_coded f
line-of NoMemory r f = tt
line-of Large r f = ap node_coded f

-- a reading that has this fault has its code
pub node-fault : {A : Type 0} (e : DocReadError) (line : LineError) (r : Result A DocReadError) → doc.Fails e r → line ≡ fault_of (node_code e) → Fails line (node_coded r)
node-fault e line r f h = subst (λ (l : LineError). Fails l (node_coded r)) (sym h) (line-of e r f)

pub node-read : {A : Type 0} (x : A) (r : Result A DocReadError) → r ≡ Ok x → node_coded r ≡ Ok x
node-read x r h = ap node_coded h

pub ruleset read_parts = (node-fault, node-read)

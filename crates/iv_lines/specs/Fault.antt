-- The texts of faults.
use Rattle.std.specs.Prelude.{ℕ, ◌-◌, List, [], ◌∷◌, codes}
use Rattle.std.specs.List.{slice_index_or}
use Rattle.iv_lines.specs.declared.fault.Fault.{Fault}
use Rattle.iv_lines.specs.declared.fault.Fault.TheVariants as fault
use Rattle.iv_lines.specs.declared.fault.LoadCause.{LoadCause}
use Rattle.iv_lines.specs.declared.fault.LoadCause.TheVariants as cause
use Rattle.iv_lines.specs.declared.fault.LoadFault.{LoadFault}

-- the text of a fault of a script line, or of the options of a view
abbrev pub fault_text : Fault → List ℕ
fault_text fault.Command = codes "no such command or wrong fields"
fault_text fault.Columns = codes "wrong number of columns"
fault_text fault.UnknownSeq = codes "unknown sequence"
fault_text fault.StartNumber = codes "start is not a number"
fault_text fault.StopNumber = codes "end is not a number"
fault_text fault.Order = codes "start not below end"
fault_text fault.PastEnd = codes "end past the sequence's end"
fault_text fault.Name = codes "bad name"
fault_text fault.Score = codes "bad score"
fault_text fault.Strand = codes "bad strand"
fault_text fault.Absent = codes "no such record"
fault_text fault.Full = codes "track is full"
fault_text fault.BadName = codes "bad view name"
fault_text fault.Taken = codes "view name taken"
fault_text fault.TooMany = codes "too many views"
fault_text fault.Words = codes "bad options"
fault_text fault.Column = codes "no such column"
fault_text fault.NoStrand = codes "strand needs six columns"
fault_text fault.NoSecond = codes "no second file"
fault_text fault.NoFasta = codes "no sequence file"
fault_text fault.NoView = codes "no such view"
fault_text fault.NoMemory = codes "no memory"
fault_text fault.Shorter = codes "records past the new end"
fault_text fault.Fixed = codes "length fixed by the sequence file"

-- the number of a fault
abbrev pub code_of : Fault → ℕ
code_of fault.Command = 1
code_of fault.Columns = 2
code_of fault.UnknownSeq = 3
code_of fault.StartNumber = 4
code_of fault.StopNumber = 5
code_of fault.Order = 6
code_of fault.PastEnd = 7
code_of fault.Name = 8
code_of fault.Score = 9
code_of fault.Strand = 10
code_of fault.Absent = 11
code_of fault.Full = 12
code_of fault.BadName = 13
code_of fault.Taken = 14
code_of fault.TooMany = 15
code_of fault.Words = 16
code_of fault.Column = 17
code_of fault.NoStrand = 18
code_of fault.NoSecond = 19
code_of fault.NoFasta = 20
code_of fault.NoView = 21
code_of fault.NoMemory = 22
code_of fault.Shorter = 23
code_of fault.Fixed = 24

-- the fault with this number, counted from 1
abbrev pub fault_numbered : ℕ → Fault
fault_numbered code = slice_index_or
    (fault.Command ∷ fault.Columns ∷ fault.UnknownSeq ∷ fault.StartNumber ∷ fault.StopNumber ∷ fault.Order ∷
    fault.PastEnd ∷ fault.Name ∷ fault.Score ∷ fault.Strand ∷ fault.Absent ∷ fault.Full ∷ fault.BadName ∷ fault.Taken ∷
    fault.TooMany ∷ fault.Words ∷ fault.Column ∷ fault.NoStrand ∷ fault.NoSecond ∷ fault.NoFasta ∷ fault.NoView ∷
    fault.NoMemory ∷ fault.Shorter ∷ fault.Fixed ∷ []) (code - 1) fault.Fixed

-- the text of a fault of a file
abbrev pub load_text : LoadCause → List ℕ
load_text cause.Columns = codes "wrong number of columns"
load_text cause.Name = codes "bad name"
load_text cause.Length = codes "bad length"
load_text cause.Repeated = codes "repeated name"
load_text cause.BasesFirst = codes "bases before a header"
load_text cause.Base = codes "bad base"
load_text cause.WrongLength = codes "length differs from the genome"
load_text (cause.Record f) = fault_text f
load_text cause.TooMany = codes "too many"
load_text cause.Memory = codes "no memory"

-- the fault of the line with this number: if memory ran out, no line is at fault and the number is 0
abbrev pub fault_at : ℕ → LoadCause → LoadFault
fault_at line cause.Memory = record { line = 0; cause = cause.Memory }
fault_at line other = record { line = line; cause = other }

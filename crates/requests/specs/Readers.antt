-- What contracts see of a reader.
use Rattle.requests.specs.declared.dialect.Dialect.{Dialect}
use Rattle.requests.specs.declared.job_reader.JobReader.{JobReader}
use Rattle.requests.specs.Inner.Assemblies as assemblies

-- the dialect of its lines
abbrev pub dialect_of : JobReader → Dialect
dialect_of reader = assemblies.dialect_of reader.assembly

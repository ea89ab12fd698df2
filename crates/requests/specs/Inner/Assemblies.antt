-- What contracts see of lines that come together as jobs.
use Rattle.requests.specs.declared.job_assembly.JobAssembly.{JobAssembly}
use Rattle.requests.specs.declared.dialect.Dialect.{Dialect}

-- the dialect of the lines
abbrev pub dialect_of : JobAssembly → Dialect
dialect_of assembly = assembly.dialect

pub mod Assemblies

pub mod SumsBuffers

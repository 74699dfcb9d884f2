pub mod StiffnessBuffers

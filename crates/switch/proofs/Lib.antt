mod Blocks
mod Serving
